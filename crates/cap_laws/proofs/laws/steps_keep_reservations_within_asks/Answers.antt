use Rattle.cap_laws.proofs.bounds.StepBounds.{reservations_stay_apart, reservations_stay_bounded}
use Rattle.cap_laws.proofs.laws.steps_keep_reservations_within_asks.Goals as goal

pub returns-clause-apart : goal.returns-clause-apart
returns-clause-apart c = reservations_stay_apart

pub returns-clause-bounded : goal.returns-clause-bounded
returns-clause-bounded c = reservations_stay_bounded
