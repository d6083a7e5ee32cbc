use Rattle.std.proofs.Common.{ap}
use Rattle.cap_copy.proofs.seen_queue.SeenQueueMarked.mark.Goals as goal

pub returns : goal.returns
returns g c = ap (λ q. q.first) c.self.view_is
