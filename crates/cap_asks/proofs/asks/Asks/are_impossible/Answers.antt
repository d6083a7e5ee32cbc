use Rattle.cap_asks.proofs.Prelude.{arith, nat_tests}
use Rattle.cap_asks.proofs.Impossible.{all_marked}
use Rattle.cap_asks.proofs.asks.Asks.are_impossible.Goals as goal

pub returns : goal.returns
returns g c = λ all. rw (← c.self.view_is) (all_marked c.self.inside.impossible.marks c.self.inside.items.items c.self.invariant.1 (let is = c.count.ensures in let len = c.self.inside.items.ok.0 in grind (arith, nat_tests, all, is, len)))
