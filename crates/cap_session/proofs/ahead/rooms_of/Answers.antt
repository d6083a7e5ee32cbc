use Rattle.std.specs.Prelude.{get_or}
use Rattle.cap_session.proofs.Prelude.{◌≡◌, ap, ◌∙◌, arith, kind_room, open_room}
use Rattle.cap_session.proofs.Owing.{rooms_fit}
use Rattle.cap_session.proofs.ahead.rooms_of.Goals as goal

pub overflow_add-room : goal.overflow_add-room
overflow_add-room c =
    let xs = c.args.asked.now.items in
    let o = c.index.result.now in
    let each : c.frame_room-room.result ≡ open_room (get_or xs c.loop-i.i o) = c.frame_room-room.ensures ∙ ap kind_room c.kind.ensures ∙ ap open_room c.index.ensures in
    omega (arith, rooms_fit xs c.loop-i.i o (omega (arith, c.loop-i-test.true, c.len-i-end.ensures)), c.loop-i.invariant, each, c.requires.few)
