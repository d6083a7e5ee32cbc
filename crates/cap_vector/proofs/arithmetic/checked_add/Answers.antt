use Rattle.std.proofs.Common.{◌≡◌, refl, arith, subst, sym, ◌∙◌}
use Rattle.cap_vector.specs.Vector.{IsVector}
use Rattle.cap_vector.proofs.AmountLemmas.{is_plus, amount-plus, length-plus, within_below}
use Rattle.cap_vector.proofs.arithmetic.checked_add.Goals as goal

pub returns-clause-some : goal.returns-clause-some
returns-clause-some g c =
    let end : c.loop-k.k ≡ g.row.K = omega arith in
    let is = is_plus c.a.inside.amounts c.b.inside.amounts c.loop-k.amounts g.row.K c.a.invariant.count c.b.invariant.count c.loop-k.invariant.long (λ k h. c.loop-k.invariant.each k (omega arith)) in
    cc

pub returns-clause-variant : goal.returns-clause-variant
returns-clause-variant g c =
    let end : c.loop-k.k ≡ g.row.K = omega arith in
    let vector : IsVector g.row.K g.row.A c.loop-k.amounts = record {
      count = c.loop-k.invariant.long;
      within = within_below g.row.A c.loop-k.amounts (λ k h. c.loop-k.invariant.within k (omega arith));
    } in
    (λ _. subst (IsVector g.row.K g.row.A) (returns-clause-some g c) vector, λ _. refl)

pub returns-then-amount-clause-variant : goal.returns-then-amount-clause-variant
returns-then-amount-clause-variant g c = (
  λ h. absurd (cc h),
  λ is.
      let k = c.loop-k.k in
      let small = rw (← c.a.view_is, ← c.b.view_is, amount-plus c.a.inside.amounts c.b.inside.amounts k) at (is.within k) in
      absurd (omega (arith, small, c.in-Some.ensures, c.if-amount.true)),
)

pub returns-in_default-clause-variant : goal.returns-in_default-clause-variant
returns-in_default-clause-variant g c = (
  λ h. absurd (cc h),
  λ is.
      let k = c.loop-k.k in
      let small = rw (← c.a.view_is, ← c.b.view_is, amount-plus c.a.inside.amounts c.b.inside.amounts k) at (is.within k) in
      absurd (c.in_default.ensures (omega (arith, small, g.A.fits))),
)

pub returns-clause-count : goal.returns-clause-count
returns-clause-count g c = rw (← c.a.view_is, ← c.b.view_is) (length-plus c.a.inside.amounts c.b.inside.amounts (c.a.invariant.count ∙ sym c.b.invariant.count) ∙ c.a.invariant.count)

pub returns-then-amount-clause-count : goal.returns-then-amount-clause-count
returns-then-amount-clause-count g c = rw (← c.a.view_is, ← c.b.view_is) (length-plus c.a.inside.amounts c.b.inside.amounts (c.a.invariant.count ∙ sym c.b.invariant.count) ∙ c.a.invariant.count)

pub returns-in_default-clause-count : goal.returns-in_default-clause-count
returns-in_default-clause-count g c = rw (← c.a.view_is, ← c.b.view_is) (length-plus c.a.inside.amounts c.b.inside.amounts (c.a.invariant.count ∙ sym c.b.invariant.count) ∙ c.a.invariant.count)
