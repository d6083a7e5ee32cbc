use Rattle.cap_examples.proofs.Prelude.{refl, plus, less}
use Rattle.cap_examples.proofs.examples.reservations_are_dropped_as_in_the_examples.Goals as goal

pub returns-clause-smaller : goal.returns-clause-smaller
unfolding plus less
returns-clause-smaller c = (refl, refl, refl, refl)

pub returns-clause-changed : goal.returns-clause-changed
unfolding plus less
returns-clause-changed c = (refl, refl, refl)
