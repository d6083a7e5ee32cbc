use Rattle.cap_examples.proofs.Prelude.{refl, plus, less}
use Rattle.cap_examples.proofs.examples.asks_are_kept_as_in_the_examples.Goals as goal

pub returns-clause-large : goal.returns-clause-large
unfolding plus less
returns-clause-large c = (refl, refl, refl)

pub returns-clause-kept : goal.returns-clause-kept
unfolding plus less
returns-clause-kept c = refl
