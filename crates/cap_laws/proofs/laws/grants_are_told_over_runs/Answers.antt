use Rattle.cap_laws.proofs.telling.ToldRuns.{grants_are_told_over_runs, new_grants_are_of_the_granted}
use Rattle.cap_laws.proofs.laws.grants_are_told_over_runs.Goals as goal

pub returns-clause-told : goal.returns-clause-told
returns-clause-told c = grants_are_told_over_runs

pub returns-clause-added : goal.returns-clause-added
returns-clause-added c = new_grants_are_of_the_granted
