use Rattle.std.proofs.Common.{◌≡◌, arith}
use Rattle.cap_vector.proofs.AmountLemmas.{is_less}
use Rattle.cap_vector.proofs.arithmetic.minus.Goals as goal

pub returns : goal.returns
returns g c =
    let end : c.loop-k.k ≡ g.row.K = omega arith in
    let is = is_less c.a.inside.amounts c.b.inside.amounts c.loop-k.amounts g.row.K c.a.invariant.count c.loop-k.invariant.long (λ k h. c.loop-k.invariant.each k (omega arith)) in
    cc
