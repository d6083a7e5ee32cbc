use Rattle.std.proofs.Common.{length}
use Rattle.cap_tree.proofs.branch.Branch.+next_waiting.Given as goal

abbrev pub decreases-next_waiting : goal.decreases-next_waiting
decreases-next_waiting g l = length l.after.now
