use Rattle.std.proofs.Common.{length}
use Rattle.cap_tree.proofs.branch.Branch.+next_child.Given as goal

abbrev pub decreases-next_child : goal.decreases-next_child
decreases-next_child g l = length l.steps.now
