use Rattle.cap_commit.proofs.Followed.{follows_some}
use Rattle.cap_commit.proofs.cluster.Cluster.tree.Goals as goal

pub returns-clause-resources : goal.returns-clause-resources
returns-clause-resources g c = c.self.invariant.consistent.resources

pub returns-clause-tied : goal.returns-clause-tied
returns-clause-tied g c = rw (← c.self.view_is) c.self.invariant.consistent.tied

pub returns-clause-waiting : goal.returns-clause-waiting
returns-clause-waiting g c = rw (← c.self.view_is) (follows_some c.self.inside.nodes.present c.self.inside.apps.table.active c.self.inside.tree.value c.self.invariant.waiting)
