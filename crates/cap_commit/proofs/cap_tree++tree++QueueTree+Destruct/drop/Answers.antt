use Rattle.cap_tree.proofs.Sizes.{path_fits, queue_fits}
use Rattle.cap_commit.proofs.cap_tree++tree++QueueTree+Destruct.drop.Goals as goal

pub drop-requires-room-T-TreeItem : goal.drop-requires-room-T-TreeItem
drop-requires-room-T-TreeItem g c κs within = search queue_fits

pub drop-requires-room-T-Destruct : goal.drop-requires-room-T-Destruct
drop-requires-room-T-Destruct g c κs within = search queue_fits

pub drop-requires-2 : goal.drop-requires-2
drop-requires-2 g c = search path_fits
