use Rattle.cap_laws.proofs.bounds.Formed.{step_stays_well_formed}
use Rattle.cap_laws.proofs.laws.steps_keep_clusters_well_formed.Goals as goal

pub returns : goal.returns
returns c = step_stays_well_formed
