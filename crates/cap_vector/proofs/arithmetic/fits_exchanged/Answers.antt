use Rattle.std.proofs.Common.{arith, refl}
use Rattle.cap_vector.proofs.AmountLemmas.{amount-exchanged, exchanged_fits}
use Rattle.cap_vector.proofs.arithmetic.fits_exchanged.Goals as goal

pub returns : goal.returns
returns g c = (
  λ _.
      rw (← c.used.view_is, ← c.old.view_is, ← c.new.view_is, ← c.most.view_is)
      (exchanged_fits c.old.inside.amounts c.new.inside.amounts c.used.inside.amounts c.most.inside.amounts c.args.factor g.row.K c.used.invariant.count c.new.invariant.count (λ k h. c.loop-k.invariant k (omega arith))),
  λ _. refl,
)

pub returns-then-after-factor : goal.returns-then-after-factor
returns-then-after-factor g c = (
  λ h. absurd (cc h),
  λ is.
      let k = c.loop-k.k in
      let small = rw (← c.used.view_is, ← c.old.view_is, ← c.new.view_is, ← c.most.view_is, amount-exchanged c.old.inside.amounts c.new.inside.amounts c.used.inside.amounts k) at (is k) in
      absurd (omega (arith, small, c.if-after-factor.true)),
)
