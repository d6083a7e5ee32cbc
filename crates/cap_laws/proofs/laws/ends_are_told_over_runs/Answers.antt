use Rattle.cap_laws.proofs.telling.ToldRuns.{ends_are_told_over_runs}
use Rattle.cap_laws.proofs.telling.EndsOfEnded.{new_ends_are_of_the_ended}
use Rattle.cap_laws.proofs.laws.ends_are_told_over_runs.Goals as goal

pub returns-clause-told : goal.returns-clause-told
returns-clause-told c = ends_are_told_over_runs

pub returns-clause-added : goal.returns-clause-added
returns-clause-added c = new_ends_are_of_the_ended
