use Rattle.cap_laws.proofs.bounds.Wanting.{wanted_is_seen}
use Rattle.cap_laws.proofs.laws.sights_show_what_is_wanted.Goals as goal

pub returns : goal.returns
returns c = wanted_is_seen
