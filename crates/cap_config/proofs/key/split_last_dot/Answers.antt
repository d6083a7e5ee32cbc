use Rattle.std.proofs.Common.{◌-◌, sym, arith, eq-eqb}
use Rattle.cap_config.proofs.Dots.{dot_found}
use Rattle.cap_config.proofs.key.split_last_dot.Goals as goal

pub returns-then-bytes-end-eq46 : goal.returns-then-bytes-end-eq46
returns-then-bytes-end-eq46 c =
    sym (dot_found c.args.bytes.now c.loop-end.end (c.loop-end.end - 1) (omega arith) c.loop-end.invariant.within c.loop-end.invariant.none (eq-eqb _ _ c.if-bytes-end-eq46.true))
