use Rattle.cap_examples.proofs.Prelude.{refl, plus, less}
use Rattle.cap_examples.proofs.examples.queues_are_served_as_in_the_examples.Goals as goal

pub returns-clause-fullness : goal.returns-clause-fullness
unfolding plus less
returns-clause-fullness c = refl

pub returns-clause-name : goal.returns-clause-name
unfolding plus less
returns-clause-name c = refl

pub returns-clause-priority : goal.returns-clause-priority
unfolding plus less
returns-clause-priority c = refl
