use Rattle.cap_laws.proofs.bounds.Risen.{limits_over_runs, quiet_runs_raise_nothing}
use Rattle.cap_laws.proofs.laws.limits_are_met_or_not_risen.Goals as goal

pub returns-clause-runs : goal.returns-clause-runs
returns-clause-runs c = limits_over_runs

pub returns-clause-quiet : goal.returns-clause-quiet
returns-clause-quiet c = quiet_runs_raise_nothing
