use Rattle.cap_tree.proofs.Prelude.{arith, nat_tests}
use Rattle.cap_tree.proofs.Looking.{parent_has_below, leaf_has_none_below}
use Rattle.cap_tree.proofs.Trees.{trees_filled}
use Rattle.cap_tree.proofs.branch.Branch.kind.Goals as goal

pub returns-else-is_empty : goal.returns-else-is_empty
returns-else-is_empty g c =
    parent_has_below g.T.TreeItem.name c.self.inside.item c.self.inside.children.items c.args.self.now c.self.view_is (trees_filled g.T.TreeItem.name c.self.inside.children.items c.self.invariant.0.trees) (grind (arith, nat_tests, c.if-is_empty.false, c.is_empty.ensures))

pub returns-then-is_empty : goal.returns-then-is_empty
returns-then-is_empty g c =
    leaf_has_none_below g.T.TreeItem.name c.self.inside.item c.self.inside.children.items c.args.self.now c.self.view_is (grind (arith, nat_tests, c.if-is_empty.true, c.is_empty.ensures))
