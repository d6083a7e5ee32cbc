use Rattle.cap_asks.specs.Apps.{held_at, entries_at}
use Rattle.cap_asks.proofs.Entries.{numbers_rise}
use Rattle.cap_asks.proofs.apps.Apps.numbers_rise.Goals as goal

pub returns : goal.returns
returns g c = rw (← c.self.view_is) (numbers_rise 1 c.self.inside.next (entries_at (held_at c.self.inside.apps) c.self.inside.index.entries) c.self.invariant.0.numbered)
