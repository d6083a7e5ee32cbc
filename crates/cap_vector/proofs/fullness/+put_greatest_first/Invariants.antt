use Rattle.std.proofs.Common.{length}
use Rattle.cap_vector.proofs.fullness.+put_greatest_first.Given as goal

abbrev pub decreases-put_greatest_first : goal.decreases-put_greatest_first
decreases-put_greatest_first l = length l.shares.now
