use Rattle.cap_narrow.proofs.Examples.{guarantees_raise_none}
use Rattle.cap_narrow.proofs.laws.guarantees_raise_none_as_in_the_example.Goals as goal

pub returns : goal.returns
returns c = guarantees_raise_none
