use Rattle.cap_laws.proofs.bounds.Risen.{limits_stay_met, queues_stay_bounded}
use Rattle.cap_laws.proofs.laws.steps_keep_queues_within_limits.Goals as goal

pub returns-clause-limits : goal.returns-clause-limits
returns-clause-limits c = limits_stay_met

pub returns-clause-queues : goal.returns-clause-queues
returns-clause-queues c = queues_stay_bounded
