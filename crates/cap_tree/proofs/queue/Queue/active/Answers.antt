use Rattle.cap_tree.proofs.Prelude.{Queue, ◌∙◌, ap}
use Rattle.cap_tree.proofs.queue.Queue.active.Goals as goal

pub returns : goal.returns
returns g c = (λ i. (c.self-inside.view_is i).count.active) ∙ ap (λ (q : Queue). q.active) c.self.view_is
