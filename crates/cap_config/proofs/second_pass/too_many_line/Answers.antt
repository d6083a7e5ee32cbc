use Rattle.cap_config.proofs.Prelude.{◌≡◌, ◌+◌, ◌<◌, ◌≤◌, sym, ◌∙◌, ap, arith, true, false, ltb, nat_tests, listed_by}
use Rattle.cap_config.proofs.FirstLines.{past_here, past_later, past_nowhere}
use Rattle.cap_config.proofs.second_pass.too_many_line.Goals as goal

pub returns-then-count-listed : goal.returns-then-count-listed
returns-then-count-listed c =
    let count = c.loop-entry.count in
    let listed = c.listed_by-listed.result in
    let e : count + listed ≡ count + listed_by c.entry-item.result.value = ap (λ n. count + n) c.listed_by-listed.ensures in
    let past : 1024 < count + listed = omega (arith, c.loop-entry.invariant.few, c.if-count-listed.true) in
    let passes : ltb 1024 (count + listed) ≡ true = grind (arith, nat_tests, past) in
    sym (c.loop-entry.invariant.so_far
    ∙ past_here count (count + listed) c.args.entries.now c.loop-entry.entry-index c.entry-item.result c.loop-entry-test.true c.entry-item.is e passes)

pub loop-entry-preserved : goal.loop-entry-preserved
loop-entry-preserved c =
    let count = c.loop-entry.count in
    let listed = c.listed_by-listed.result in
    let e : count + listed ≡ count + listed_by c.entry-item.result.value = ap (λ n. count + n) c.listed_by-listed.ensures in
    let few : count + listed ≤ 1024 = omega (arith, c.loop-entry.invariant.few, c.if-count-listed.false) in
    let fails : ltb 1024 (count + listed) ≡ false = grind (arith, nat_tests, few) in
    record {
      few = few;
      so_far =
          c.loop-entry.invariant.so_far
          ∙ past_later count (count + listed) c.args.entries.now c.loop-entry.entry-index c.entry-item.result c.loop-entry-test.true c.entry-item.is e fails;
    }

pub returns : goal.returns
returns c = sym (c.loop-entry.invariant.so_far ∙ past_nowhere c.loop-entry.count c.args.entries.now c.loop-entry.entry-index (omega arith))
