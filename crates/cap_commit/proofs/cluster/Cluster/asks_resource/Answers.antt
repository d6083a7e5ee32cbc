use Rattle.cap_commit.proofs.Fitting.{amounts_in_cluster, array_in_cluster, in_cluster}
use Rattle.cap_commit.proofs.cluster.Cluster.asks_resource.Goals as goal

pub resource-requires : goal.resource-requires
resource-requires g c = search in_cluster

pub amounts-requires : goal.amounts-requires
amounts-requires g c = (search amounts_in_cluster, search array_in_cluster)

pub resource-requires-2 : goal.resource-requires-2
resource-requires-2 g c = search in_cluster

pub amounts-requires-2 : goal.amounts-requires-2
amounts-requires-2 g c = (search amounts_in_cluster, search array_in_cluster)

pub eq-requires : goal.eq-requires
eq-requires g c = search array_in_cluster
