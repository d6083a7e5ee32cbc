use Rattle.cap_commit.proofs.Prelude.{slice_index_or, its_node_there}
use Rattle.cap_commit.proofs.cluster.Cluster.nodes.Goals as goal

pub returns-clause-present : goal.returns-clause-present
returns-clause-present g c = λ k d b. its_node_there c.self.inside.nodes.present (slice_index_or c.self.inside.nodes.reserved k d) (c.self.invariant.consistent.reservations.fit k d b)

pub returns-clause-resources : goal.returns-clause-resources
returns-clause-resources g c = c.self.invariant.consistent.resources
