use Rattle.std.proofs.Common.{length}
use Rattle.cap_explain.proofs.text.explain.Given as goal

abbrev pub decreases-loop-rest : goal.decreases-loop-rest
decreases-loop-rest l = length l.rest
