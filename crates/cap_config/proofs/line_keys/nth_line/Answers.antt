use Rattle.cap_config.proofs.Prelude.{◌≡◌, ◌-◌, false, rules, tests, arith, ◌==◌, nat_tests, nth_from_yields_List, YieldsList-from_slice_split, nth_line}
use Rattle.cap_config.proofs.line_keys.nth_line.Goals as goal

pub returns : goal.returns
unfolding nth_line
returns c =
    let some : (c.args.number == 0) ≡ false = grind (arith, nat_tests, c.if-number-eq0.false) in
    rw some
    (nth_from_yields_List _ _ (c.args.number - 1) c.nth.ensures.ran
    (YieldsList-from_slice_split _ (λ b. b == 10) c.args.text.now c.split.ensures.rest c.split.ensures.done c.split.ensures.closure (λ x r q k. search (rules, tests))))
