use Rattle.cap_asks.proofs.Prelude.{◌∙◌, ap, arith, nat_tests, subst, sym, HeldApp, Fits, WantAtLeast}
use Rattle.cap_asks.proofs.AtLeast.{put_wants, want_less}
use Rattle.cap_asks.proofs.app.App.least_with.Goals as goal

pub returns-then-count-eq0 : goal.returns-then-count-eq0
returns-then-count-eq0 g c =
    let asks = c.args.self.now.app.asks in
    let wants = subst (WantAtLeast c.self.inside.least) (ap (λ (a : HeldApp). a.app.asks) c.self.view_is) c.self.invariant.2 in
    let none = sym c.count.ensures ∙ c.if-count-eq0.true in
    put_wants c.self.inside.least c.args.ask.now asks wants (λ some. absurd (grind (arith, nat_tests, none, some)))

pub returns : goal.returns
returns g c =
    let asks = c.args.self.now.app.asks in
    let wants = subst (WantAtLeast c.self.inside.least) (ap (λ (a : HeldApp). a.app.asks) c.self.view_is) c.self.invariant.2 in
    put_wants c.lowered.result c.args.ask.now asks (want_less c.lowered.result c.self.inside.least asks c.lowered.ensures.least wants)
    (λ some. subst (Fits c.lowered.result) c.resource-resource.ensures c.lowered.ensures.resource)
