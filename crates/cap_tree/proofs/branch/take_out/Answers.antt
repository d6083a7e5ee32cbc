use Rattle.cap_tree.proofs.Prelude.{arith, ◌∙◌, ◌<◌, ap, refl, length, subst, sym, get_or_default, IsTakenOut, was_at, was_nowhere}
use Rattle.cap_tree.proofs.branch.take_out.Goals as goal

pub returns-then-index : goal.returns-then-index
returns-then-index g c =
    let is = c.loop-place.order.items in
    let place = c.loop-place.place in
    let within : place < length is = omega (arith, c.loop-place-test.true, c.len-place-end.ensures) in
    let at = get_or_default is place 0 c.index.result.now within ∙ sym c.index.ensures ∙ c.if-index.true in
    subst (λ old. IsTakenOut c.args.index old c.remove.new.self.items) c.loop-place.invariant.same (was_at place within at c.remove.ensures.items)

pub returns : goal.returns
returns g c =
    let is = c.loop-place.order.items in
    let same = ap length c.loop-place.invariant.same in
    subst (λ old. IsTakenOut c.args.index old is) c.loop-place.invariant.same
    (was_nowhere (λ a lt. c.loop-place.invariant.none a (omega (arith, lt, same, c.loop-place-test.false, c.len-place-end.ensures))) refl)
