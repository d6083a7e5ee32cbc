use Rattle.cap_narrow.proofs.Sights.{uses_narrow, sights_narrow, sights_show_none}
use Rattle.cap_narrow.proofs.laws.sights_narrow.Goals as goal

pub returns : goal.returns
returns c = record { uses = uses_narrow; sights = sights_narrow; none = sights_show_none }
