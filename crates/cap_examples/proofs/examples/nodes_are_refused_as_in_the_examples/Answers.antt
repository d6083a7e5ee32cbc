use Rattle.cap_examples.proofs.Prelude.{refl, plus, less}
use Rattle.cap_examples.proofs.examples.nodes_are_refused_as_in_the_examples.Goals as goal

pub returns-clause-totals : goal.returns-clause-totals
unfolding plus less
returns-clause-totals c = refl

pub returns-clause-others : goal.returns-clause-others
unfolding plus less
returns-clause-others c = (refl, refl, refl, refl)
