use Rattle.cap_examples.proofs.Prelude.{refl, plus, less}
use Rattle.cap_examples.proofs.examples.heartbeats_end_containers_as_in_the_example.Goals as goal

pub returns : goal.returns
unfolding plus less
returns c = (refl, refl, refl)
