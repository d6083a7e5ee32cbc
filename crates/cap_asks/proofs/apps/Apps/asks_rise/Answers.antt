use Rattle.std.proofs.lemmas.List.Elements.{All-from_recursion}
use Rattle.cap_asks.specs.Accounts.{AreKept}
use Rattle.cap_asks.proofs.apps.Apps.asks_rise.Goals as goal

pub returns : goal.returns
returns g c = rw (← c.self.view_is) (All-from_recursion (λ app. AreKept app.asks) _ c.self.invariant.0.kept)
