use Rattle.cap_tree.proofs.Prelude.{arith, ◌∷◌, [], ◌∙◌, ap, sym, subst, IfSome, IsPosition, child_item}
use Rattle.cap_tree.proofs.Spots.{in_child}
use Rattle.cap_tree.proofs.Service.{top_of_child}
use Rattle.cap_tree.proofs.branch.Branch.child.Goals as goal

pub index-requires : goal.index-requires
index-requires g c =
    let there : IsPosition c.args.self.now (c.in-Some.i ∷ []) = subst (λ o. IfSome o (λ i. IsPosition c.args.self.now (i ∷ []))) c.in-Some.is c.requires in
    let w = (in_child (λ _. Unit {0}) g.T.TreeItem.name c.self.inside.item c.self.inside.children.items c.args.self.now (c.in-Some.i ∷ []) c.self.view_is (omega arith) there).within in
    omega (arith, w)

pub returns-in-Some : goal.returns-in-Some
returns-in-Some g c =
    let there : IsPosition c.args.self.now (c.in-Some.i ∷ []) = subst (λ o. IfSome o (λ i. IsPosition c.args.self.now (i ∷ []))) c.in-Some.is c.requires in
    let w = (in_child (λ _. Unit {0}) g.T.TreeItem.name c.self.inside.item c.self.inside.children.items c.args.self.now (c.in-Some.i ∷ []) c.self.view_is (omega arith) there).within in
    sym (ap (child_item c.args.self.now) c.in-Some.is
    ∙ top_of_child g.T.TreeItem.name c.self.inside.item c.self.inside.children.items c.args.self.now c.self.view_is c.in-Some.i c.index.result.now w c.index.ensures c.top.result.now c.top.ensures)
