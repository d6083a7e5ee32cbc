use Rattle.cap_workers.specs.Scheduling.{Turns, seat_of}
use Rattle.cap_workers.proofs.scheduler.Turning.schedule.Given as goal

-- the turns so far
abbrev pub invariant-loop : goal.invariant-loop
invariant-loop g l = Turns g.J.Naming.opening g.J.Naming.limit l.fn.self.worker (seat_of l.fn.self.seeing) l.self.worker (seat_of l.self.seeing)
