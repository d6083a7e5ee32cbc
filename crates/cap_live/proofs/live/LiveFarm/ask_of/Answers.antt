use Rattle.cap_live.proofs.Prelude.{◌∙◌, ◌≡◌, ap, sym, subst, refl, arith, length, Some, slice_get, slice_get_read, slice_get_within, Key, same_key}
use Rattle.cap_live.proofs.Asks.{key_here, none_before, one_more}
use Rattle.cap_live.proofs.live.LiveFarm.ask_of.Goals as goal

pub loop-index-init : goal.loop-index-init
loop-index-init g c = λ i ask lt at. absurd (omega (arith, lt))

pub loop-index-preserved : goal.loop-index-preserved
loop-index-preserved g c =
    let x = c.index-asks-index.result in
    let at : slice_get c.args.of.now.app.asks c.loop-index.index ≡ Some x = subst (λ xs. slice_get xs c.loop-index.index ≡ Some x) c.asks-asks.ensures.value (slice_get_read c.asks-asks.result.now (length c.asks-asks.result.now) c.loop-index.index x refl c.loop-index-test.true c.index-asks-index.is) in
    let key : same_key x.key c.args.key.now ≡ c.is_same.result = ap (λ (k : Key). same_key k c.args.key.now) (sym c.key.ensures) ∙ sym c.is_same.ensures in
    one_more c.args.of.now.app.asks c.args.key.now c.loop-index.index x at (key ∙ c.if-is_same.false) c.loop-index.invariant

pub returns-then-is_same : goal.returns-then-is_same
returns-then-is_same g c =
    let x = c.index-asks-index.result in
    let at : slice_get c.args.of.now.app.asks c.loop-index.index ≡ Some x = subst (λ xs. slice_get xs c.loop-index.index ≡ Some x) c.asks-asks.ensures.value (slice_get_read c.asks-asks.result.now (length c.asks-asks.result.now) c.loop-index.index x refl c.loop-index-test.true c.index-asks-index.is) in
    let key : same_key x.key c.args.key.now ≡ c.is_same.result = ap (λ (k : Key). same_key k c.args.key.now) (sym c.key.ensures) ∙ sym c.is_same.ensures in
    key_here c.args.of.now.app.asks c.asks-asks.ensures.kept c.loop-index.index x c.args.key.now at (key ∙ c.if-is_same.true)

pub returns : goal.returns
returns g c =
    none_before c.args.of.now.app.asks c.args.key.now (λ i ask at.
    let lt = slice_get_within c.args.of.now.app.asks i ask at in
    let far = c.loop-index-test.false in
    let n = ap length c.asks-asks.ensures.value in
    c.loop-index.invariant i ask (omega (arith, lt, far, n)) at)
