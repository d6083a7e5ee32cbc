use Rattle.cap_narrow.proofs.Steps.{runs_narrow}
use Rattle.cap_narrow.proofs.laws.runs_narrow.Goals as goal

pub returns : goal.returns
returns c = runs_narrow
