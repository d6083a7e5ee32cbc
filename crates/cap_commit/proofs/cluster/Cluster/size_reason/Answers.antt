use Rattle.cap_commit.proofs.Fitting.{in_cluster, nodes_in_cluster}
use Rattle.cap_commit.proofs.cluster.Cluster.size_reason.Goals as goal

pub live_count-requires : goal.live_count-requires
live_count-requires g c = search nodes_in_cluster

pub next_container-requires : goal.next_container-requires
next_container-requires g c = search nodes_in_cluster

pub fits_total-requires : goal.fits_total-requires
fits_total-requires g c = search in_cluster

pub is_grant-requires-2 : goal.is_grant-requires-2
is_grant-requires-2 g c = search in_cluster

pub is_grant-requires : goal.is_grant-requires
is_grant-requires g c = search in_cluster
