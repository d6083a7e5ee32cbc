use Rattle.cap_tree.proofs.Sizes.{row_fits}
use Rattle.cap_tree.proofs.change.SetSettingsChangeQueue.change_at.Goals as goal

pub set_settings-requires : goal.set_settings-requires
set_settings-requires g c = search row_fits
