use Rattle.cap_asks.proofs.Prelude.{arith}
use Rattle.cap_asks.proofs.Waiters.{waiters_count}
use Rattle.cap_asks.proofs.apps.Apps.waiting_count.Goals as goal

pub returns : goal.returns
returns g c = let all = waiters_count c.self.invariant.0 in let len = c.len.ensures in rw (← c.self.view_is) (omega (arith, all, len))
