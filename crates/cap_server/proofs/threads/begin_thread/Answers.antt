use denote.Param.Send.{sendable}
use Rattle.std.proofs.Crossing.{crosses}
use Rattle.cap_shared.proofs.Crossing.{Shared-sync}
use Rattle.cap_workers.proofs.coordinator.Coordinator.TheSendSync as coordinator
use Rattle.cap_server.proofs.Crossing.{Task-send, Done-send}
use Rattle.cap_server.proofs.state.SharedState.TheSendSync as state
use Rattle.cap_server.proofs.threads.begin_thread.Goals as goal

pub spawn-requires-send-F : goal.spawn-requires-send-F
spawn-requires-send-F g c κs within =
    let j = c.type_bounds.send-J in
    let h = c.type_bounds.sync-H in
    let w = c.type_bounds.sync-G in
    search (Shared-sync, Task-send, state.the_sync, coordinator.the_sync, crosses, sendable) depth 60 fits 20000

pub spawn-requires-send-T : goal.spawn-requires-send-T
spawn-requires-send-T g c κs within =
    let j = c.type_bounds.send-J in
    search (Done-send, sendable) depth 60 fits 20000
