use Rattle.cap_commit.proofs.cluster.Cluster.apps.Goals as goal

pub returns-clause-few : goal.returns-clause-few
returns-clause-few g c = rw (← c.self.view_is) c.self.invariant.consistent.few

pub returns-clause-resources : goal.returns-clause-resources
returns-clause-resources g c = c.self.invariant.consistent.resources

pub returns-clause-impossible : goal.returns-clause-impossible
returns-clause-impossible g c = rw (← c.self.view_is) c.self.invariant.impossible
