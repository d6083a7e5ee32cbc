use Rattle.cap_laws.proofs.bounds.BoundedRuns.{step_stays_bounded}
use Rattle.cap_laws.proofs.laws.steps_keep_bounds.Goals as goal

pub returns : goal.returns
returns c = step_stays_bounded
