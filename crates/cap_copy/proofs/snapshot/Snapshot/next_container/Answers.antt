use Rattle.cap_copy.proofs.Prelude.{Seen, ap}
use Rattle.cap_copy.proofs.snapshot.Snapshot.next_container.Goals as goal

pub returns-clause-next : goal.returns-clause-next
returns-clause-next g c = ap (λ (s : Seen). s.next_container) c.self.view_is

pub returns-clause-whole : goal.returns-clause-whole
returns-clause-whole g c = rw (← c.self.view_is) c.self.invariant.is
