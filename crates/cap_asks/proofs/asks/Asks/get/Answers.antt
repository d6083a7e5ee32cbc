use Rattle.cap_asks.proofs.Prelude.{◌∙◌, sym, ap, arith, HeldAsks, ask_at}
use Rattle.cap_asks.proofs.Keeping.{stands_within, is_taken}
use Rattle.cap_asks.proofs.asks.Asks.get.Goals as goal

pub index-requires : goal.index-requires
index-requires g c =
    let h = stands_within c.args.key.now c.self.inside.items.items c.args.self.now.asks c.in-Ok.index c.self.invariant.0 (ap (λ (a : HeldAsks). a.asks) c.self.view_is) c.in-Ok.ensures.ok in
    omega (arith, h)

pub returns-in-Ok : goal.returns-in-Ok
returns-in-Ok g c =
    let seen = ap (λ (a : HeldAsks). a.asks) c.self.view_is in
    let t = is_taken c.args.key.now c.index.result.now c.self.inside.items.items c.args.self.now.asks c.in-Ok.index c.self.invariant.0 seen c.in-Ok.ensures.ok c.index.ensures in
    sym t.found ∙ ap (ask_at c.args.key.now) seen
