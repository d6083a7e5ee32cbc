use Rattle.cap_examples.proofs.Prelude.{refl, plus, less}
use Rattle.cap_examples.proofs.examples.proposals_are_rejected_as_in_the_examples.Goals as goal

pub returns-clause-user : goal.returns-clause-user
unfolding plus less
returns-clause-user c = refl

pub returns-clause-second : goal.returns-clause-second
unfolding plus less
returns-clause-second c = (refl, refl, refl, refl)

pub returns-clause-replaced : goal.returns-clause-replaced
unfolding plus less
returns-clause-replaced c = refl

pub returns-clause-returned : goal.returns-clause-returned
unfolding plus less
returns-clause-returned c = (refl, refl, refl)

pub returns-clause-full : goal.returns-clause-full
unfolding plus less
returns-clause-full c = (refl, refl, refl, refl)

pub returns-clause-others : goal.returns-clause-others
unfolding plus less
returns-clause-others c = (refl, refl, refl, refl, refl, refl, refl, refl, refl, refl)
