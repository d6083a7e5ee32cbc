use Rattle.cap_commit.proofs.Fitting.{in_cluster}
use Rattle.cap_commit.proofs.cluster.Cluster.taken_back.Goals as goal

pub resource-requires : goal.resource-requires
resource-requires g c = search in_cluster

pub zero-requires : goal.zero-requires
zero-requires g c = search in_cluster
