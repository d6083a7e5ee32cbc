use Rattle.cap_commit.proofs.Waking.{AreWokenTo}
use Rattle.cap_commit.proofs.following.wake.Given as goal

abbrev pub invariant-loop-index : goal.invariant-loop-index
invariant-loop-index g l = AreWokenTo g.row.K l.apps l.asleep l.initial.tree l.index l.tree
