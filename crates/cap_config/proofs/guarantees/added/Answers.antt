use Rattle.cap_config.proofs.Prelude.{arith, ◌+◌, get_or, fill_by_all, resources, capped}
use Rattle.cap_config.proofs.guarantees.added.Goals as goal

pub returns : goal.returns
returns c =
    fill_by_all (λ k. capped (get_or c.args.amounts k 0 + get_or c.args.more k 0)) c.loop-k.sums resources 0 c.loop-k.invariant.long (λ k h. c.loop-k.invariant.each k (omega arith))
