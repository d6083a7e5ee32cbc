use Rattle.std.specs.Prelude.{refl}
use Rattle.cap_examples.proofs.examples.queues_are_trees_as_in_the_examples.Goals as goal

pub returns : goal.returns
returns c = (refl, refl, refl)
