use denote.Param.Send.{sendable}
use Rattle.std.proofs.Crossing.{crosses}
use Rattle.cap_shared.proofs.Crossing.{Shared-sync}
use Rattle.cap_testing.proofs.epochs.named_epoch.Goals as goal

pub map_vec-requires-sync-F : goal.map_vec-requires-sync-F
map_vec-requires-sync-F g c κs within =
    let j = c.type_bounds.send-J in
    let h = c.type_bounds.sync-H in
    let w = c.type_bounds.sync-W in
    search (Shared-sync, crosses, sendable) depth 60
