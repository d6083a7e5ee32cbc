use Rattle.cap_asks.proofs.Prelude.{◌≡◌, ◌≤◌, ◌<◌, ◌∙◌, ℕ, List, Fits, ap, arith, get_or, length, length-replicate, length-set, subst, sym}
use Rattle.cap_vector.proofs.AmountLemmas.{amount-zeros}
use Rattle.cap_vector.specs.Vector.{amount_max}
use Rattle.cap_asks.proofs.AtLeast.{no_more_set}
use Rattle.cap_asks.proofs.least.resized.Goals as goal

pub loop-k-init : goal.loop-k-init
loop-k-init g c = record {
  long = length-replicate {A = ℕ} g.row.L 0;
  each = λ j. let z = amount-zeros g.row.L j in omega (arith, z);
}

pub loop-k-preserved : goal.loop-k-preserved
loop-k-preserved g c =
    let long = c.loop-k.invariant.long in
    let end = c.min-k-end.ensures in
    let below = c.loop-k-test.true in
    let within : c.loop-k.k < length c.loop-k.amounts = omega (arith, long, end, below) in
    let given = get_or c.amounts-given.result c.loop-k.k 0 in
    record {
      long = length-set c.loop-k.amounts c.loop-k.k given ∙ long;
      each = no_more_set c.amounts-given.result c.loop-k.amounts c.loop-k.k given within (omega arith) c.loop-k.invariant.each;
    }

module _ (given amounts v : List ℕ) (same : given ≡ v) (each : (j : ℕ) → get_or amounts j 0 ≤ get_or given j 0) where
  no_more : (j : ℕ) → get_or amounts j 0 ≤ get_or v j 0
  no_more j = let few = each j in let is = ap (λ w. get_or w j 0) same in omega (arith, few, is)

  within_most : ((j : ℕ) → get_or v j 0 ≤ amount_max) → (j : ℕ) → get_or amounts j 0 ≤ amount_max
  within_most most j = let few = no_more j in let h = most j in omega (arith, few, h)

pub unreachable-requires : goal.unreachable-requires
unreachable-requires g c =
    let within = within_most c.amounts-given.result c.loop-k.amounts c.args.resource.now c.amounts-given.ensures.value c.loop-k.invariant.each c.amounts-given.ensures.vector.within in
    let none = c.in_default.ensures.variant.1 (record { count = c.loop-k.invariant.long; within = within }) in
    absurd (cc none)

pub returns : goal.returns
returns g c = subst (λ v. Fits v c.args.resource.now) (sym c.in-Some.ensures.some) (no_more c.amounts-given.result c.loop-k.amounts c.args.resource.now c.amounts-given.ensures.value c.loop-k.invariant.each)
