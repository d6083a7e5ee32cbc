use Rattle.cap_laws.proofs.calls.Refreshing.{refresh_sets_all}
use Rattle.cap_laws.proofs.laws.refresh_sets_all_settings.Goals as goal

pub returns : goal.returns
returns c = refresh_sets_all
