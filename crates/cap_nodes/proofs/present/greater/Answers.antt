use Rattle.cap_nodes.proofs.Prelude.{◌∙◌, arith, subst, sym, amount_max, get_or, Fits}
use Rattle.std.specs.Prelude.{max}
use Rattle.cap_nodes.proofs.Greater.{greater_is}
use Rattle.cap_nodes.proofs.present.greater.Goals as goal

pub unreachable-requires : goal.unreachable-requires
unreachable-requires g c =
    let a = c.amounts-firsts.ensures in
    let b = c.amounts-seconds.ensures in
    let is = greater_is g.row.K amount_max c.args.a.now c.args.b.now c.loop-k.amounts a.vector b.vector c.loop-k.invariant.long (λ j h. c.loop-k.invariant.each j (omega (arith, h, c.loop-k-test.false)) ∙ (λ i. max (get_or (a.value i) j 0) (get_or (b.value i) j 0))) in
    cc (c.in_default.ensures.variant.1 is.vector)

pub returns-clause-first : goal.returns-clause-first
returns-clause-first g c =
    let a = c.amounts-firsts.ensures in
    let b = c.amounts-seconds.ensures in
    let is = greater_is g.row.K amount_max c.args.a.now c.args.b.now c.loop-k.amounts a.vector b.vector c.loop-k.invariant.long (λ j h. c.loop-k.invariant.each j (omega (arith, h, c.loop-k-test.false)) ∙ (λ i. max (get_or (a.value i) j 0) (get_or (b.value i) j 0))) in
    subst (λ v. Fits c.args.a.now v) (sym c.in-Some.ensures.some) is.first

pub returns-clause-second : goal.returns-clause-second
returns-clause-second g c =
    let a = c.amounts-firsts.ensures in
    let b = c.amounts-seconds.ensures in
    let is = greater_is g.row.K amount_max c.args.a.now c.args.b.now c.loop-k.amounts a.vector b.vector c.loop-k.invariant.long (λ j h. c.loop-k.invariant.each j (omega (arith, h, c.loop-k-test.false)) ∙ (λ i. max (get_or (a.value i) j 0) (get_or (b.value i) j 0))) in
    subst (λ v. Fits c.args.b.now v) (sym c.in-Some.ensures.some) is.second
