use Rattle.std.proofs.Common.{length}
use Rattle.cap_tree.proofs.branch.Branch.+first_waiting.Given as goal

abbrev pub decreases-first_waiting : goal.decreases-first_waiting
decreases-first_waiting g l = length l.self.now
