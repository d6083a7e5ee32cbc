use Rattle.cap_asks.proofs.Prelude.{◌≡◌, ◌+◌, ◌-◌, ◌/◌, ◌∙◌, sym, ap, arith, Ask, HeldAsks, AreKept, is_before, index_of}
use Rattle.cap_asks.proofs.Keeping.{is_later, not_later, within_end, index_found, index_other, index_past}
use Rattle.cap_asks.proofs.asks.Asks.index_of.Goals as goal
use Rattle.cap_asks.proofs.asks.Asks.index_of.Goals.{else-low-items-via-then-low-items+else-is_same, else-low-items-via-else-low-items}

pub loop-low-init : goal.loop-low-init
loop-low-init g c =
    let end = within_end c.args.key.now c.as_slice-items.result.now in
    record { low = omega arith; high = end; within = omega arith }

pub loop-low-preserved-then-is_before : goal.loop-low-preserved-then-is_before
loop-low-preserved-then-is_before g c =
    let kept : AreKept c.as_slice-items.result.now = rw c.as_slice-items.ensures.value c.self.invariant.0 in
    let before = sym c.is_before.ensures ∙ c.if-is_before.true in
    let later = is_later c.args.key.now c.as_slice-items.result.now (c.loop-low.low + (c.loop-low.high - c.loop-low.low) / 2) c.index-items-middle.result kept (omega arith) (ap (λ (a : Ask). is_before a.key c.args.key.now) (sym c.index-items-middle.is) ∙ ap (λ k. is_before k c.args.key.now) (sym c.key.ensures) ∙ before) in
    record { low = omega (arith, later); high = c.loop-low.invariant.high; within = c.loop-low.invariant.within }

pub loop-low-preserved : goal.loop-low-preserved
loop-low-preserved g c =
    let before = sym c.is_before.ensures ∙ c.if-is_before.false in
    let later = not_later c.args.key.now c.as_slice-items.result.now (c.loop-low.low + (c.loop-low.high - c.loop-low.low) / 2) c.index-items-middle.result (omega arith) (ap (λ (a : Ask). is_before a.key c.args.key.now) (sym c.index-items-middle.is) ∙ ap (λ k. is_before k c.args.key.now) (sym c.key.ensures) ∙ before) in
    record { low = c.loop-low.invariant.low; high = later; within = omega arith }

pub returns-then-is_same-clause-ok : goal.returns-then-is_same-clause-ok
returns-then-is_same-clause-ok g c =
    let seen = sym c.as_slice-items.ensures.value in
    index_found c.args.key.now c.key-then-low-items.result c.index-items-low.result c.as_slice-items.result.now c.args.self.now.asks c.loop-low.low
    (c.as_slice-items.ensures.value ∙ ap (λ (a : HeldAsks). a.asks) c.self.view_is) (omega arith) (omega arith) c.index-items-low.is c.key-then-low-items.ensures (sym c.is_same.ensures ∙ c.if-is_same.true)

pub returns-else-low-items-clause-err : goal.returns-else-low-items-clause-err
returns-else-low-items-clause-err g c =
    let kept : AreKept c.as_slice-items.result.now = rw c.as_slice-items.ensures.value c.self.invariant.0 in
    let same = c.as_slice-items.ensures.value ∙ ap (λ (a : HeldAsks). a.asks) c.self.view_is in
    let at : c.loop-low.low ≡ index_of c.args.key.now c.as_slice-items.result.now = omega arith in
    elim c.else-low-items.branch [
      | else-low-items-via-then-low-items+else-is_same w ↦
          index_other c.args.key.now w.key-then-low-items.result w.index-items-low.result c.as_slice-items.result.now c.args.self.now.asks c.loop-low.low kept same at
          w.index-items-low.is w.key-then-low-items.ensures (sym w.is_same.ensures ∙ w.if-is_same.false)
      | else-low-items-via-else-low-items w ↦ index_past c.args.key.now c.as_slice-items.result.now c.args.self.now.asks c.loop-low.low kept same at w.if-low-items.false
    ]
