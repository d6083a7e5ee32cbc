use Rattle.cap_tree.proofs.Prelude.{Queue, ap}
use Rattle.cap_tree.proofs.queue.Queue.factor.Goals as goal

pub returns : goal.returns
returns g c = ap (λ (q : Queue). q.factor) c.self.view_is
