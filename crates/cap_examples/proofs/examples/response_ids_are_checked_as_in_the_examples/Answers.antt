use Rattle.cap_examples.proofs.Prelude.{refl, plus, less}
use Rattle.cap_examples.proofs.examples.response_ids_are_checked_as_in_the_examples.Goals as goal

pub returns-clause-ids : goal.returns-clause-ids
unfolding plus less
returns-clause-ids c = (refl, refl, refl, refl, refl, refl)

pub returns-clause-wrap : goal.returns-clause-wrap
unfolding plus less
returns-clause-wrap c = (refl, refl, refl)
