use Rattle.cap_session.proofs.Prelude.{◌≡◌, ◌≤◌, IsReading, bytes_to_come, ReadsAhead, rooms}
use Rattle.cap_session.proofs.ahead.read_all.Given as goal

-- what was read so far
abbrev pub invariant-loop-alloc : goal.invariant-loop-alloc
invariant-loop-alloc l = ReadsAhead l.fn.framer l.framer l.fn.asked.items l.asked.items l.fn.requests.items l.requests.items × IsReading l.framer × (l.unsent.items ≡ l.fn.unsent.items) × (rooms l.asked.items ≤ l.unsent.spare) × (l.room ≡ rooms l.asked.items)

abbrev pub decreases-loop-alloc : goal.decreases-loop-alloc
decreases-loop-alloc l = bytes_to_come l.framer
