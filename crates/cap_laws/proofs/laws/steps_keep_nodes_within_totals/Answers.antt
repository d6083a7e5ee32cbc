use Rattle.cap_laws.proofs.bounds.StepBounds.{nodes_stay_bounded}
use Rattle.cap_laws.proofs.laws.steps_keep_nodes_within_totals.Goals as goal

pub returns : goal.returns
returns c = nodes_stay_bounded
