use Rattle.std.proofs.Common.{◌≡◌, arith, ap, ◌∙◌}
use Rattle.cap_vector.specs.Fullness.{greatest_first, fractions}
use Rattle.cap_vector.proofs.ShareLemmas.{are_fractions}
use Rattle.cap_vector.proofs.fullness.Shares.of.Goals as goal

pub returns : goal.returns
returns g c =
    let e : c.loop-k.shares ≡ fractions c.used.inside.amounts c.guaranteed.inside.amounts =
    are_fractions c.used.inside.amounts c.guaranteed.inside.amounts c.loop-k.shares g.row.K c.used.invariant.count c.guaranteed.invariant.count c.loop-k.invariant.long (λ k h. c.loop-k.invariant.each k (omega arith)) in
    c.put_greatest_first.ensures ∙ ap greatest_first e ∙ rw (c.used.view_is, c.guaranteed.view_is)
