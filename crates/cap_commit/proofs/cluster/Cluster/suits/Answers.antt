use Rattle.cap_commit.proofs.Fitting.{in_cluster}
use Rattle.cap_commit.proofs.cluster.Cluster.suits.Goals as goal

pub node-node-requires : goal.node-node-requires
node-node-requires g c = search in_cluster

pub host-requires : goal.host-requires
host-requires g c = search in_cluster

pub rack-requires : goal.rack-requires
rack-requires g c = search in_cluster

pub place-requires : goal.place-requires
place-requires g c = search in_cluster
