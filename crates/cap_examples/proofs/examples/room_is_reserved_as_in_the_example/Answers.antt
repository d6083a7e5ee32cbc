use Rattle.cap_examples.proofs.Prelude.{refl, plus, less}
use Rattle.cap_examples.proofs.examples.room_is_reserved_as_in_the_example.Goals as goal

pub returns-clause-made : goal.returns-clause-made
unfolding plus less
returns-clause-made c = (refl, refl)

pub returns-clause-alone : goal.returns-clause-alone
unfolding plus less
returns-clause-alone c = (refl, refl)

pub returns-clause-converted : goal.returns-clause-converted
unfolding plus less
returns-clause-converted c = (refl, refl, refl, refl, refl)
