use Rattle.std.proofs.Common.{sym, arith}
use Rattle.cap_config.proofs.Exceeding.{exceeds_not}
use Rattle.cap_config.proofs.guarantees.exceeds.Goals as goal

pub returns : goal.returns
returns c = sym (exceeds_not c.args.a c.args.b (λ k h. c.loop-k.invariant k (omega arith)))
