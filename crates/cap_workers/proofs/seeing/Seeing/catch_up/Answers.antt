use Rattle.cap_workers.specs.Following.{notes_none}
use Rattle.cap_workers.proofs.seeing.Seeing.catch_up.Goals as goal

pub returns-in-Copying : goal.returns-in-Copying
returns-in-Copying g c = notes_none
