use Rattle.cap_narrow.proofs.Examples.{one_grant}
use Rattle.cap_narrow.proofs.laws.one_grant_without_gpus_as_in_the_example.Goals as goal

pub returns : goal.returns
returns c = one_grant
