use Rattle.cap_tree.proofs.Prelude.{rules, arith, ◌≡◌, ◌<◌, ◌≤◌, ◌-◌, length, refl, ◌∙◌, ap, set, sym, subst, [], vec_len, on_ok_weaker, on_err_weaker, length-set, set-get_or, nil_from_length, All-set, first_of, spots, IsAdded, AreSpots, root_count, false≢true}
use Rattle.cap_tree.proofs.Finds.{child-lt}
use Rattle.cap_tree.proofs.Spots.{sum-set_child}
use Rattle.cap_tree.proofs.Adding.{added_below, added_at_leaf, none_below}
use Rattle.cap_tree.proofs.Trees.{tree_of, trees_filled}
use Rattle.cap_tree.proofs.branch.Branch.+add.Goals as goal

pub invariant_of-self : goal.invariant_of-self
invariant_of-self g t c =
    let kids = c.self.inside.children.items in
    let n = vec_len c.self.inside.children - 1 in
    let some = c.in-Some.ensures.variant.0 refl in
    let l : vec_len c.self.inside.children ≡ length kids = omega arith in
    let ls = length-set kids n c.add.new.self in (
      record {
        sums = λ m.
            let s = c.self.invariant.0.sums m in
            let e = sum-set_child (first_of (λ x. g.T.TreeItem.stored x m)) kids n c.in-Some.last.now c.add.new.self (omega arith) c.in-Some.ensures.value in
            let k = c.add.ensures.kept m in
            omega arith;
        trees = All-set (AreSpots g.T.TreeItem.name) kids n c.add.new.self c.add.ensures.tree c.self.invariant.0.trees;
        few = omega (arith, ls, c.self.invariant.0.few);
      },
      λ sorted. absurd (false≢true sorted),
    )

pub returns-in-Some-clause-ok : goal.returns-in-Some-clause-ok
returns-in-Some-clause-ok g t c =
    let some = c.in-Some.ensures.variant.0 refl in
    let l : vec_len c.self.inside.children ≡ length c.self.inside.children.items = omega arith in
    on_ok_weaker c.add.result
    (added_below c.args.levels (vec_len c.self.inside.children - 1) (g.T.TreeItem.name c.args.item) g.T.TreeItem.name c.self.inside.item c.args.item c.self.inside.children.items c.args.self.now c.in-Some.last.now c.add.new.self c.self.view_is (trees_filled g.T.TreeItem.name c.self.inside.children.items c.self.invariant.0.trees)
    (omega arith) (omega arith) c.in-Some.ensures.value (omega arith))
    c.add.ensures.ok

pub add_child-requires-clause-stored : goal.add_child-requires-clause-stored
add_child-requires-clause-stored g t c = c.requires.stored

pub add_child-requires-clause-own : goal.add_child-requires-clause-own
add_child-requires-clause-own g t c = c.requires.own

pub add_child-requires-in-None-clause-stored : goal.add_child-requires-in-None-clause-stored
add_child-requires-in-None-clause-stored g t c = c.requires.stored

pub add_child-requires-in-None-clause-own : goal.add_child-requires-in-None-clause-own
add_child-requires-in-None-clause-own g t c = c.requires.own

pub returns-in-Some-clause-tree : goal.returns-in-Some-clause-tree
returns-in-Some-clause-tree g t c =
    let kids = c.self.inside.children.items in
    let n = vec_len c.self.inside.children - 1 in
    tree_of g.T.TreeItem.name c.self.inside.item (set kids n c.add.new.self) (All-set (AreSpots g.T.TreeItem.name) kids n c.add.new.self c.add.ensures.tree c.self.invariant.0.trees)

pub returns-in-Some-clause-err : goal.returns-in-Some-clause-err
returns-in-Some-clause-err g t c =
    let kids = c.self.inside.children.items in
    let n = vec_len c.self.inside.children - 1 in
    on_err_weaker c.add.result
    (λ same. ap (λ k. spots g.T.TreeItem.name c.self.inside.item k) (ap (set kids n) (same ∙ c.in-Some.ensures.value) ∙ set-get_or kids n c.in-Some.last.now) ∙ c.self.view_is)
    c.add.ensures.err

pub returns-in-Some-clause-kept : goal.returns-in-Some-clause-kept
returns-in-Some-clause-kept g t c = λ m. ap (λ ss. root_count g.T.TreeItem.stored ss m) c.self.view_is

pub returns-in-None-clause-kept : goal.returns-in-None-clause-kept
returns-in-None-clause-kept g t c = λ m. c.add_child-in-None.ensures.kept m ∙ ap (λ ss. root_count g.T.TreeItem.stored ss m) c.self.view_is

pub add_child-requires-in-None-clause-few : goal.add_child-requires-in-None-clause-few
add_child-requires-in-None-clause-few g t c = subst (λ ss. length ss ≤ 4294967295) (sym c.self.view_is) c.requires.few

pub returns-in-None-clause-ok : goal.returns-in-None-clause-ok
returns-in-None-clause-ok g t c =
    let kids = c.self.inside.children.items in
    let long = none_below (vec_len c.self.inside.children) c.in-None.ensures.variant.1 in
    let none : kids ≡ [] = nil_from_length kids (omega (arith, long)) in
    on_ok_weaker c.add_child-in-None.result
    (λ a. added_at_leaf c.args.levels (g.T.TreeItem.name c.args.item) g.T.TreeItem.name c.self.inside.item c.args.item kids c.args.self.now c.add_child-in-None.new.self c.self.view_is none
    (subst (λ v. IsAdded 0 (g.T.TreeItem.name c.args.item) c.args.item v c.add_child-in-None.new.self) c.self.view_is a))
    c.add_child-in-None.ensures.ok

pub add-requires : goal.add-requires
add-requires g t c =
    let some = c.in-Some.ensures.variant.0 refl in
    let within = subst (λ n. vec_len c.self.inside.children - 1 < n) c.self.inside.children.ok.0 (omega (arith, some)) in
    let w = child-lt g.T.TreeItem.name c.self.inside.item c.self.inside.children.items c.args.self.now (vec_len c.self.inside.children - 1) c.in-Some.last.now c.self.view_is within c.in-Some.ensures.value in
    λ κs l. (search (rules, w), (search rules, (search rules, (c.requires.stored, (c.requires.own, omega (arith, w, c.requires.few))))))
