use Rattle.cap_asks.proofs.Impossible.{wants_between}
use Rattle.cap_asks.proofs.asks.Asks.next_possible.Goals as goal

pub returns : goal.returns
returns g c = rw (← c.self.view_is) (wants_between c.self.inside.impossible.marks c.self.inside.items.items c.args.from c.next_clear.result c.self.invariant.1 c.next_clear.ensures)
