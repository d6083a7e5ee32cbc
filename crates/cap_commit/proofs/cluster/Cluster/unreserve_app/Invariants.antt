use Rattle.cap_commit.proofs.Prelude.{length, ◌==◌, Reservation}
use Rattle.cap_commit.proofs.Dropping.{IsKeeping}
use Rattle.cap_commit.proofs.cluster.Cluster.unreserve_app.Given as goal

abbrev pub invariant-loop-reservation : goal.invariant-loop-reservation
invariant-loop-reservation g l = IsKeeping (λ (r : Reservation). r.app == l.number) 0 l.fn.self l.self

abbrev pub decreases-loop-reservation : goal.decreases-loop-reservation
decreases-loop-reservation g l = length l.self.flat.nodes.reserved
