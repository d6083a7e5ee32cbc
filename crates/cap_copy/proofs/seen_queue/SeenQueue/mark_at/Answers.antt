use Rattle.cap_copy.proofs.Prelude.{ap, ◌∙◌, ◌≡◌, cond, sym, ◌==◌, eq-eqb, ne_eqb, waiting_at}
use Rattle.cap_copy.proofs.seen_queue.SeenQueue.mark_at.Goals.{then-self-eq0, else-self-eq0}
use Rattle.cap_copy.proofs.seen_queue.SeenQueue.mark_at.Goals as goal

-- the first of all that wait there stays
first_is : (g : _) (c : goal.After-self-3-1 g) → c.if-self-eq0.self ≡ cond (c.self.inside.first == 0) c.args.mark c.self.inside.first
first_is g c = elim c.if-self-eq0.branch [
  | then-self-eq0 w ↦ w.self-is ∙ ap (λ b. cond b c.args.mark c.self.inside.first) (sym (eq-eqb c.self.inside.first 0 w.if-self-eq0.true))
  | else-self-eq0 w ↦ w.self-is ∙ ap (λ b. cond b c.args.mark c.self.inside.first) (sym (ne_eqb c.self.inside.first 0 w.if-self-eq0.false))
]

pub returns : goal.returns
returns g c =
    (λ i. record { queue = Rattle.cap_copy.specs.SeenTree.queue_in c.self.inside.source.items; first = first_is g c i; last = c.args.mark; waits = Rattle.std.proofs.Common.true })
    ∙ ap (waiting_at c.args.mark) c.self.view_is
