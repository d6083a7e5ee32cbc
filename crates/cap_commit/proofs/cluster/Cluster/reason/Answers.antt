use Rattle.cap_commit.proofs.Fitting.{in_cluster}
use Rattle.cap_commit.proofs.cluster.Cluster.reason.Goals as goal

pub admit-requires : goal.admit-requires
admit-requires g c = search in_cluster
