use Rattle.cap_workers.specs.Scheduling.{Offers, seat_of}
use Rattle.cap_workers.proofs.scheduler.Turning.offer_all.Given as goal

-- the offers so far
abbrev pub invariant-loop : goal.invariant-loop
invariant-loop g l = Offers g.J.Naming.opening l.fn.self.worker (seat_of l.fn.self.seeing) l.fn.putter l.self.worker (seat_of l.self.seeing) l.putter
