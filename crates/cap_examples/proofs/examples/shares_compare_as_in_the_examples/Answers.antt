use Rattle.cap_examples.proofs.Prelude.{refl, plus, less}
use Rattle.cap_examples.proofs.examples.shares_compare_as_in_the_examples.Goals as goal

pub returns-clause-two : goal.returns-clause-two
unfolding plus less
returns-clause-two c = (refl, refl, refl)

pub returns-clause-nothing : goal.returns-clause-nothing
unfolding plus less
returns-clause-nothing c = refl

pub returns-clause-three : goal.returns-clause-three
unfolding plus less
returns-clause-three c = (refl, refl)
