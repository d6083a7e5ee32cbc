use Rattle.cap_trackers.proofs.Prelude.{nodes_in_cluster, amounts_in_cluster, ap, length, ◌∙◌, bytes_eq, nat_le, list_any, amount_max, plus, nodes_max, NodeTable, sum_of_totals, none_is_large}
use Rattle.cap_trackers.proofs.Refusing.{refusal_is}
use Rattle.cap_trackers.proofs.node_calls.refusal.Goals as goal

pub returns : goal.returns
returns g c =
    let is = c.nodes-nodes.ensures.value in
    let large = none_is_large g.row.K amount_max c.checked_add.result (plus c.total.result c.args.total.now) c.is_none.result c.checked_add.ensures.count c.checked_add.ensures.variant c.is_none.ensures in
    let total = c.total.ensures.value ∙ ap (λ (t : NodeTable). sum_of_totals g.row.K t.present) is in
    refusal_is c.args.cluster.now.flat c.args.host.now c.args.total.now c.first_refusal.result _ _ _ _ _ c.first_refusal.ensures
    (rw c.as_bytes.ensures.value at (c.is_host_taken.ensures ∙ ap (λ (t : NodeTable). list_any (λ node. bytes_eq node.host c.as_bytes.result.now) t.present) is))
    (rw total at large)
    (ap (λ n. nat_le nodes_max n) (c.count.ensures.value ∙ ap (λ (t : NodeTable). length t.present) is))
    c.is_zero.ensures
    (ap (λ n. nat_le _ n) (c.next_node.ensures ∙ ap (λ (t : NodeTable). t.next_node) is))

pub nodes-nodes-requires : goal.nodes-nodes-requires
nodes-nodes-requires g c = search nodes_in_cluster

pub is_host_taken-requires : goal.is_host_taken-requires
is_host_taken-requires g c = search nodes_in_cluster

pub total-requires : goal.total-requires
total-requires g c = search nodes_in_cluster

pub checked_add-requires : goal.checked_add-requires
checked_add-requires g c = search

pub count-requires : goal.count-requires
count-requires g c = search nodes_in_cluster

pub is_zero-requires : goal.is_zero-requires
is_zero-requires g c = search amounts_in_cluster

pub next_node-requires : goal.next_node-requires
next_node-requires g c = search nodes_in_cluster
