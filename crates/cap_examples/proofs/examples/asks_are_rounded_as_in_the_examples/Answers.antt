use Rattle.cap_examples.proofs.Prelude.{refl, plus, less}
use Rattle.cap_examples.proofs.examples.asks_are_rounded_as_in_the_examples.Goals as goal

pub returns : goal.returns
unfolding plus less
returns c = (refl, refl, refl, refl)
