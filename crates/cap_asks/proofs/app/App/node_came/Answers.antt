use Rattle.cap_asks.proofs.app.App.node_came.Goals as goal

pub returns-clause-impossible : goal.returns-clause-impossible
returns-clause-impossible g c = rw (← c.self.view_is) c.node_came.ensures.impossible
