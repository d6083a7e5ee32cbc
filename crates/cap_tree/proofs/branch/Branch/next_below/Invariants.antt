use Rattle.cap_tree.proofs.Prelude.{[], children_at, that_pass}
use Rattle.cap_tree.proofs.Service.{IsFirstOf}
use Rattle.cap_tree.proofs.branch.Branch.next_below.Given as goal

abbrev pub invariant-loop-i : goal.invariant-loop-i
invariant-loop-i g l = IsFirstOf g.T.TreeItem.order g.met.T.Served.total (that_pass (g.C.Test.passes l.fn.test) (children_at [] l.self)) l.fn.after l.i l.next
