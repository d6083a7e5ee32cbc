use Rattle.cap_world.proofs.Working.{quiet_steps, commits_exact}
use Rattle.cap_world.proofs.laws.commits_are_exact.Goals as goal

pub returns-clause-quiet : goal.returns-clause-quiet
returns-clause-quiet c = quiet_steps

pub returns-clause-commits : goal.returns-clause-commits
returns-clause-commits c = commits_exact
