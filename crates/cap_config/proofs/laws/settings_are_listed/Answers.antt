use Rattle.cap_config.proofs.Listing.{settings_listed}
use Rattle.cap_config.proofs.laws.settings_are_listed.Goals as goal

pub returns : goal.returns
returns c = settings_listed
