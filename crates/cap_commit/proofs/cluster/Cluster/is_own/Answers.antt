use Rattle.cap_commit.proofs.Fitting.{in_cluster}
use Rattle.cap_commit.proofs.cluster.Cluster.is_own.Goals as goal

pub converts-requires : goal.converts-requires
converts-requires g c = search in_cluster
