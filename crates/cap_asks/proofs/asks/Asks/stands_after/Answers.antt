use Rattle.cap_asks.proofs.Prelude.{true, false, ap, sym, ◌∙◌, not, ◌==◌}
use Rattle.cap_asks.proofs.Keeping.{stands_next, chosen}
use Rattle.cap_asks.proofs.asks.Asks.stands_after.Goals as goal
use Rattle.cap_asks.proofs.asks.Asks.stands_after.Goals.{then-is_same, else-is_same}

pub loop-ask-preserved : goal.loop-ask-preserved
loop-ask-preserved g c =
    let below = c.loop-ask-test.true in
    let next = stands_next c.args.key.now c.args.self.now.asks c.args.asks.now c.loop-ask.ask-index c.ask-item.result below c.ask-item.is in
    elim c.if-is_same.branch [
      | then-is_same w ↦ w.stands-is ∙ sym (next ∙ chosen c.ask-item.result.key c.key.result c.args.key.now true _ _ c.key.ensures (sym c.is_same.ensures ∙ w.if-is_same.true) ∙ ap (λ n. not (n == 0)) (sym w.count-stands.ensures))
      | else-is_same w ↦ w.stands-is ∙ c.loop-ask.invariant ∙ sym (next ∙ chosen c.ask-item.result.key c.key.result c.args.key.now false _ _ c.key.ensures (sym c.is_same.ensures ∙ w.if-is_same.false))
    ]
