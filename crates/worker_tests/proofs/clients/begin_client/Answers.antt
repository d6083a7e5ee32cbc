use denote.Param.Send.{sendable}
use Rattle.std.proofs.Crossing.{crosses}
use Rattle.cap_shared.proofs.Crossing.{Shared-sync}
use Rattle.cap_shared.proofs.seat.Seat.TheSendSync as seat
use Rattle.worker_tests.proofs.clients.Course.TheSendSync as course
use Rattle.worker_tests.proofs.clients.begin_client.Goals as goal

pub spawn-requires-send-F : goal.spawn-requires-send-F
spawn-requires-send-F g c κs within =
    let j = c.type_bounds.send-J in
    let h = c.type_bounds.sync-H in
    search (Shared-sync, seat.the_send, course.the_sync, crosses, sendable) depth 60 fits 20000
