use Rattle.cap_tree.proofs.Prelude.{◌+◌, ◌-◌, arith}
use Rattle.std.proofs.Common.{◌/◌}
use Rattle.cap_tree.proofs.Numbers.{in_order}
use Rattle.cap_tree.proofs.queue.place_of.Goals as goal

pub loop-low-preserved-then-number-numbers : goal.loop-low-preserved-then-number-numbers
loop-low-preserved-then-number-numbers c =
    let ns = c.args.numbers.now in
    let low = c.loop-low.low in
    let high = c.loop-low.high in
    let middle = low + (high - low) / 2 in
    let before = c.loop-low.invariant in
    let test = c.loop-low-test.true in
    let most = before.within in
    let a = c.requires in
    record {
      within = omega (arith, test, most);
      ordered = omega (arith, test);
      before = before.before;
      after = λ k le lt. let o = in_order 1 a.end ns a.rise middle k le lt in omega (arith, o, c.if-number-numbers.true);
    }

pub loop-low-preserved : goal.loop-low-preserved
loop-low-preserved c =
    let ns = c.args.numbers.now in
    let low = c.loop-low.low in
    let high = c.loop-low.high in
    let middle = low + (high - low) / 2 in
    let before = c.loop-low.invariant in
    let test = c.loop-low-test.true in
    let most = before.within in
    let a = c.requires in
    record {
      within = most;
      ordered = omega (arith, test);
      before = λ k lt. let o = in_order 1 a.end ns a.rise k middle (omega (arith, lt)) (omega (arith, test, most)) in omega (arith, o, c.if-number-numbers.false);
      after = before.after;
    }
