use Rattle.cap_tree.proofs.Sizes.{path_fits, queue_fits}
use Rattle.cap_tree.proofs.tree.QueueTree.row.Goals as goal

pub as_slice-requires : goal.as_slice-requires
as_slice-requires g c = search path_fits

pub get-requires : goal.get-requires
get-requires g c = rw (← c.self.view_is, ← c.as_slice.ensures) at c.requires

pub returns : goal.returns
returns g c = rw (← c.self.view_is, ← c.as_slice.ensures) c.get.ensures

pub get-requires-room-T-TreeItem : goal.get-requires-room-T-TreeItem
get-requires-room-T-TreeItem g c κs within = search queue_fits

pub get-requires-room-T-Destruct : goal.get-requires-room-T-Destruct
get-requires-room-T-Destruct g c κs within = search queue_fits
