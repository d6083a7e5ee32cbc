use Rattle.cap_asks.proofs.Prelude.{arith, nat_tests}
use Rattle.cap_asks.proofs.Impossible.{none_marked}
use Rattle.cap_asks.proofs.asks.Asks.has_impossible.Goals as goal

pub returns : goal.returns
returns g c = λ none. rw (← c.self.view_is) (none_marked c.self.inside.impossible.marks c.self.inside.items.items (let is = c.count.ensures in grind (arith, nat_tests, none, is)))
