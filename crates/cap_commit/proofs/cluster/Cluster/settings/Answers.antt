use Rattle.cap_commit.proofs.Prelude.{ClusterState, ap}
use Rattle.cap_commit.proofs.cluster.Cluster.settings.Goals as goal

pub returns-clause-apps : goal.returns-clause-apps
returns-clause-apps g c = ap (λ (y : ClusterState g.row.K). y.flat.settings.application_limit) c.self.view_is
