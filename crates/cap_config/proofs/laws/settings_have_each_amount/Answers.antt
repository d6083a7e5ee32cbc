use Rattle.cap_config.proofs.RowAmounts.{settings_have}
use Rattle.cap_config.proofs.laws.settings_have_each_amount.Goals as goal

pub returns : goal.returns
returns c = settings_have
