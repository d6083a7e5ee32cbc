use Rattle.cap_examples.proofs.Prelude.{refl, plus, less}
use Rattle.cap_examples.proofs.examples.masters_come_and_go_as_in_the_examples.Goals as goal

pub returns : goal.returns
unfolding plus less
returns c = (refl, refl, refl, refl, refl)
