use Rattle.cap_shared.specs.Following.{Follows}
use Rattle.cap_workers.specs.Following.{Notes}
use Rattle.cap_workers.proofs.follower.catch_up.Given as goal

-- the pieces so far
abbrev pub invariant-loop : goal.invariant-loop
invariant-loop g l = record {
  notes : Notes g.J.Naming.opening l.fn.seat l.seat;
  follows : Follows l.replica.log l.seat.past;
}
