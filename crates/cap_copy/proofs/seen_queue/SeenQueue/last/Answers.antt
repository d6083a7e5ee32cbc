use Rattle.std.proofs.Common.{ap}
use Rattle.cap_copy.proofs.seen_queue.SeenQueue.last.Goals as goal

pub returns : goal.returns
returns g c = ap (λ q. q.last) c.self.view_is
