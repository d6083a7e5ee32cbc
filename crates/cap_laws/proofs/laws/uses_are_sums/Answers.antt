use Rattle.cap_laws.proofs.uses.UseSums.{uses_are_sums}
use Rattle.cap_laws.proofs.laws.uses_are_sums.Goals as goal

pub returns : goal.returns
returns c = uses_are_sums
