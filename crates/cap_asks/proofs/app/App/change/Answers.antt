use Rattle.cap_asks.proofs.Prelude.{subst, sym, WantAtLeast}
use Rattle.cap_asks.proofs.AtLeast.{taken_wants}
use Rattle.cap_asks.proofs.app.App.change.Goals as goal

pub invariant_of-self-in-TakeOne : goal.invariant_of-self-in-TakeOne
invariant_of-self-in-TakeOne g c = (
  c.self.invariant.0,
  c.self.invariant.1,
  subst (WantAtLeast c.self.inside.least) (sym c.take_one.ensures.asks) (taken_wants c.self.inside.least c.in-TakeOne.key.now c.self.inside.asks.asks c.self.invariant.2),
)

pub returns-in-PutAsk-clause-impossible : goal.returns-in-PutAsk-clause-impossible
returns-in-PutAsk-clause-impossible g c = rw (c.in-PutAsk.is, ← c.self.view_is) c.put.ensures.impossible

pub returns-in-TakeOne-clause-impossible : goal.returns-in-TakeOne-clause-impossible
returns-in-TakeOne-clause-impossible g c = rw (c.in-TakeOne.is, ← c.self.view_is) c.take_one.ensures.impossible
