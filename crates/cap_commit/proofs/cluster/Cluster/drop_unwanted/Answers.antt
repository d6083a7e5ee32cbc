use Rattle.cap_commit.proofs.Fitting.{in_cluster, nodes_in_cluster}
use Rattle.cap_commit.proofs.Prelude.{ap, ◌∙◌, option_map_or, keep_first, reservations_left, app_in, is_for, with_reserved, ClusterState}
use Rattle.cap_commit.proofs.cluster.Cluster.drop_unwanted.Goals as goal

pub returns-clause-flat : goal.returns-clause-flat
returns-clause-flat g c =
    let start = c.args.self.now.flat in
    let n = c.args.number in
    let ask = c.args.ask.now in
    let left = c.reservations_left-left.ensures ∙ ap (λ (h : ClusterState g.row.K). option_map_or (λ app. reservations_left app ask) (app_in h.flat.apps n) 0) c.self.view_is in
    c.keep_first.ensures.flat ∙ (λ i. with_reserved (keep_first (is_for n (c.key.ensures i)) (left i) start.nodes.reserved) start)

pub keep_first-requires : goal.keep_first-requires
keep_first-requires g c = search

pub reservation_count-requires : goal.reservation_count-requires
reservation_count-requires g c = search nodes_in_cluster

pub reservations_left-left-requires : goal.reservations_left-left-requires
reservations_left-left-requires g c = search in_cluster

pub key-requires : goal.key-requires
key-requires g c = search in_cluster
