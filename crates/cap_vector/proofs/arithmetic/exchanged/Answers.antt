use Rattle.std.proofs.Common.{arith}
use Rattle.cap_vector.proofs.AmountLemmas.{is_exchanged, within_below}
use Rattle.cap_vector.proofs.arithmetic.exchanged.Goals as goal

pub invariant_of-result : goal.invariant_of-result
invariant_of-result g c = record {
  count = c.loop-k.invariant.long;
  within = within_below g.row.A c.loop-k.amounts (λ k h. c.loop-k.invariant.within k (omega arith));
}

pub returns : goal.returns
returns g c =
    let is = is_exchanged c.old.inside.amounts c.new.inside.amounts c.a.inside.amounts c.loop-k.amounts g.row.K c.a.invariant.count c.new.invariant.count c.loop-k.invariant.long (λ k h. c.loop-k.invariant.each k (omega arith)) in
    cc
