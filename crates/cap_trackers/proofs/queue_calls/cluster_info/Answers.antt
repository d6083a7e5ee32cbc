use Rattle.cap_commit.proofs.Fitting.{nodes_in_cluster, amounts_in_cluster, apps_fit}
use Rattle.cap_trackers.proofs.queue_calls.cluster_info.Goals as goal

pub nodes-nodes-requires : goal.nodes-nodes-requires
nodes-nodes-requires g c = search nodes_in_cluster

pub count-requires : goal.count-requires
count-requires g c = search nodes_in_cluster

pub apps-requires : goal.apps-requires
apps-requires g c = search apps_fit

pub live_count-requires : goal.live_count-requires
live_count-requires g c = search nodes_in_cluster

pub total-requires : goal.total-requires
total-requires g c = search (nodes_in_cluster, amounts_in_cluster)

pub root_use-requires : goal.root_use-requires
root_use-requires g c = search amounts_in_cluster
