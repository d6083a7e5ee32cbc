use Rattle.cap_tree.specs.Service.{IsOrderOf, kid_items, that_pass}
use Rattle.cap_tree.proofs.branch.sort_children.Given as goal

abbrev pub invariant-loop-i : goal.invariant-loop-i
invariant-loop-i g l = IsOrderOf g.T.TreeItem.order (that_pass g.T.TreeItem.waits (kid_items l.children)) l.i l.order.items
