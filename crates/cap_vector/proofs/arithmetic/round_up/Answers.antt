use Rattle.std.proofs.Common.{◌≡◌, arith}
use Rattle.cap_vector.proofs.AmountLemmas.{is_rounded}
use Rattle.cap_vector.proofs.arithmetic.round_up.Goals as goal

pub returns : goal.returns
returns g c =
    let end : c.loop-k.k ≡ g.row.K = omega arith in
    let is = is_rounded c.amounts.inside.amounts c.step.inside.amounts c.most.inside.amounts c.loop-k.rounded g.row.K c.loop-k.invariant.long (λ k h. c.loop-k.invariant.each k (omega arith)) in
    cc
