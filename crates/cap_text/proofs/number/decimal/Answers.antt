use Rattle.std.proofs.Common.{arith}
use Rattle.cap_text.proofs.Digits.{power_small, digit_at}
use Rattle.cap_text.proofs.number.decimal.Goals as goal

pub overflow_mul-number : goal.overflow_mul-number
overflow_mul-number c = omega (arith, power_small c.loop-digit.digit-index (omega arith))

pub overflow_add-number : goal.overflow_add-number
overflow_add-number c =
    let digit = digit_at c.args.digits.now c.loop-digit.digit-index c.requires.digits c.loop-digit-test.true in
    omega (arith, power_small c.loop-digit.digit-index (omega arith), digit.most)
