use Rattle.cap_nodes.proofs.nodes.Nodes.total.Goals as goal

pub returns-clause-within : goal.returns-clause-within
returns-clause-within g c = rw (← c.self.view_is, ← c.self.invariant.1) c.self.invariant.3
