use Rattle.cap_laws.proofs.bounds.BoundedRuns.{opened_is_bounded, opened_meets_limits, runs_are_bounded}
use Rattle.cap_laws.proofs.laws.runs_stay_bounded.Goals as goal

pub returns-clause-opened : goal.returns-clause-opened
returns-clause-opened c = opened_is_bounded

pub returns-clause-runs : goal.returns-clause-runs
returns-clause-runs c = runs_are_bounded

pub returns-clause-limits : goal.returns-clause-limits
returns-clause-limits c = opened_meets_limits
