use denote.Param.Send.{sendable}
use Rattle.std.proofs.Crossing.{crosses}
use Rattle.cap_shared.proofs.Crossing.{Shared-sync}
use Rattle.cap_server.proofs.Crossing.{Done-send}
use Rattle.cap_connections.proofs.places.Place.TheSendSync as place
use Rattle.cap_server.proofs.state.SharedState.TheSendSync as state
use Rattle.cap_server.proofs.threads.begin_serving.Goals as goal

pub spawn_scoped-requires-send-F : goal.spawn_scoped-requires-send-F
spawn_scoped-requires-send-F g c κs within =
    let j = c.type_bounds.send-J in
    let h = c.type_bounds.sync-H in
    let w = c.type_bounds.sync-G in
    search (Shared-sync, place.the_sync, state.the_sync, crosses, sendable) depth 60

pub spawn_scoped-requires-send-T : goal.spawn_scoped-requires-send-T
spawn_scoped-requires-send-T g c κs within =
    let j = c.type_bounds.send-J in
    search (Done-send, sendable) depth 60 fits 20000
