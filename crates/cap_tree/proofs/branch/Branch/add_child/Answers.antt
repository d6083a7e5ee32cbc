use Rattle.cap_tree.proofs.Prelude.{arith, ◌≡◌, ◌++◌, ◌∷◌, [], ap, sym, ◌∙◌, subst, refl, length, All, All-append, All-cons, All-nil, sum_by-append, spots, first_of, IsAdded, AreSpots, IsBranch, root_count, false≢true}
use Rattle.std.proofs.Common.{length-append}
use Rattle.std.specs.List.{sum_by}
use Rattle.cap_tree.proofs.Adding.{added_here, kids-lt}
use Rattle.cap_tree.proofs.Trees.{tree_of, trees_filled}
use Rattle.cap_tree.proofs.branch.Branch.add_child.Goals as goal

pub returns-clause-ok : goal.returns-clause-ok
returns-clause-ok g c =
    let kids = c.self.inside.children.items in
    let e : c.push_reserved.new.self.items ≡ kids ++ spots g.T.TreeItem.name c.args.item [] ∷ [] = c.push_reserved.ensures.items ∙ (λ i. c.reserve.ensures.items i ++ c.leaf.ensures i ∷ []) in
    subst (λ k. IsAdded 0 (g.T.TreeItem.name c.args.item) c.args.item c.args.self.now (spots g.T.TreeItem.name c.self.inside.item k)) (sym e)
    (added_here 0 g.T.TreeItem.name c.self.inside.item c.args.item kids c.args.self.now c.self.view_is refl)

trees_more : (g : _) (c : goal.After-push_reserved g) → All (AreSpots g.T.TreeItem.name) c.push_reserved.new.self.items
trees_more g c =
    let kids = c.self.inside.children.items in
    let name = g.T.TreeItem.name in
    let more = spots name c.args.item [] in
    let e : c.push_reserved.new.self.items ≡ kids ++ more ∷ [] = c.push_reserved.ensures.items ∙ (λ i. c.reserve.ensures.items i ++ c.leaf.ensures i ∷ []) in
    subst (All (AreSpots name)) (sym e)
    (All-append (AreSpots name) kids (more ∷ []) c.self.invariant.0.trees (All-cons (AreSpots name) more [] (tree_of name c.args.item [] (All-nil (AreSpots name))) (All-nil (AreSpots name))))

pub returns-clause-tree : goal.returns-clause-tree
returns-clause-tree g c = tree_of g.T.TreeItem.name c.self.inside.item c.push_reserved.new.self.items (trees_more g c)

pub returns-in-Err-clause-tree : goal.returns-in-Err-clause-tree
returns-in-Err-clause-tree g c = tree_of g.T.TreeItem.name c.self.inside.item c.reserve.new.self.items (subst (All (AreSpots g.T.TreeItem.name)) (sym c.reserve.ensures.items) c.self.invariant.0.trees)

pub returns-in-Err-insert-clause-tree : goal.returns-in-Err-insert-clause-tree
returns-in-Err-insert-clause-tree g c = tree_of g.T.TreeItem.name c.self.inside.item c.reserve.new.self.items (subst (All (AreSpots g.T.TreeItem.name)) (sym c.reserve.ensures.items) c.self.invariant.0.trees)

pub returns-in-Err-reserve-clause-tree : goal.returns-in-Err-reserve-clause-tree
returns-in-Err-reserve-clause-tree g c = tree_of g.T.TreeItem.name c.self.inside.item c.reserve.new.self.items (subst (All (AreSpots g.T.TreeItem.name)) (sym c.reserve.ensures.items) c.self.invariant.0.trees)

pub invariant_of-self-2 : goal.invariant_of-self-2
invariant_of-self-2 g c =
    let kids = c.self.inside.children.items in
    let more = spots g.T.TreeItem.name c.args.item [] in
    let e : c.push_reserved.new.self.items ≡ kids ++ more ∷ [] = c.push_reserved.ensures.items ∙ (λ i. c.reserve.ensures.items i ++ c.leaf.ensures i ∷ []) in
    let fewer = kids-lt g.T.TreeItem.name c.self.inside.item kids c.args.self.now c.self.view_is (trees_filled g.T.TreeItem.name kids c.self.invariant.0.trees) in
    let n = length-append kids (more ∷ []) in
    let l = ap length e in (
      record {
        sums = λ m.
            let s = c.self.invariant.0.sums m in
            let a = sum_by-append (first_of (λ x. g.T.TreeItem.stored x m)) kids (more ∷ []) in
            let b = ap (sum_by (first_of (λ x. g.T.TreeItem.stored x m))) e in
            let z = c.requires.stored m in
            omega (arith, s, a, b, z);
        trees = trees_more g c;
        few = omega (arith, fewer, n, l, c.requires.few);
      },
      λ sorted. absurd (false≢true sorted),
    )

pub returns-clause-kept : goal.returns-clause-kept
returns-clause-kept g c = λ m. ap (λ ss. root_count g.T.TreeItem.stored ss m) c.self.view_is

pub returns-in-Err-clause-kept : goal.returns-in-Err-clause-kept
returns-in-Err-clause-kept g c = λ m. ap (λ ss. root_count g.T.TreeItem.stored ss m) c.self.view_is

pub invariant_of-self : goal.invariant_of-self
invariant_of-self g c = (subst (IsBranch g.T.TreeItem.name g.T.TreeItem.stored g.T.TreeItem.own c.self.inside.item) (sym c.in-Err.ensures.items) c.self.invariant.0, λ sorted. absurd (false≢true sorted))

pub leaf-requires : goal.leaf-requires
leaf-requires g c = λ m. c.requires.stored m ∙ sym (c.requires.own m)
