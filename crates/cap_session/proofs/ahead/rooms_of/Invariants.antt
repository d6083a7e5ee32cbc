use Rattle.cap_session.proofs.Prelude.{◌≡◌, take, rooms}
use Rattle.cap_session.proofs.ahead.rooms_of.Given as goal

-- the room of the replies to those so far
abbrev pub invariant-loop-i : goal.invariant-loop-i
invariant-loop-i l = l.room ≡ rooms (take l.i l.asked.items)
