use Rattle.cap_examples.proofs.Prelude.{refl, plus, less}
use Rattle.cap_examples.proofs.examples.submits_are_refused_as_in_the_examples.Goals as goal

pub returns-clause-replies : goal.returns-clause-replies
unfolding plus less
returns-clause-replies c = (refl, refl, refl, refl, refl, refl)

pub returns-clause-statuses : goal.returns-clause-statuses
unfolding plus less
returns-clause-statuses c = (refl, refl, refl, refl, refl)
