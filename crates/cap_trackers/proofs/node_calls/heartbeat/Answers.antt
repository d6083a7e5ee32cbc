use Rattle.cap_trackers.proofs.Prelude.{nodes_in_cluster, node_in_cluster, ◌∙◌, sym, ap, subst, refl, true, false, if◌then◌else◌, map, option_and_then, IsRising, ClusterNode, NodeTable, after_processed_heartbeat}
use Rattle.cap_trackers.proofs.Beating.{node_shown, node_missing, unrefused, is_again, repeats_it, repeats_none, bad_refused, unknown_refused, processed, told_is}
use Rattle.cap_trackers.proofs.node_calls.heartbeat.Goals as goal

pub returns-in_default-clause-replies : goal.returns-in_default-clause-replies
returns-in_default-clause-replies g c = unknown_refused c.args.cluster.now.flat c.args.node c.args.response c.args.ended.now (node_missing c.args.cluster.now.flat c.nodes-nodes.result.now c.args.node c.nodes-nodes.ensures.value c.in_default.ensures.found)

pub returns-then-is_bad_id-clause-replies : goal.returns-then-is_bad_id-clause-replies
returns-then-is_bad_id-clause-replies g c =
    let there = node_shown c.args.cluster.now.flat c.nodes-nodes.result.now c.args.node c.in-Some.found.now c.nodes-nodes.ensures.value c.in-Some.ensures.found in
    bad_refused c.args.cluster.now.flat c.args.node c.args.response c.args.ended.now c.in-Some.found.now there (sym c.is_bad_id.ensures ∙ c.if-is_bad_id.true)

pub beat-reply-requires : goal.beat-reply-requires
beat-reply-requires g c =
    let there = node_shown c.args.cluster.now.flat c.nodes-nodes.result.now c.args.node c.in-Some.found.now c.nodes-nodes.ensures.value c.in-Some.ensures.found in
    ((search), rw (c.end_named-ignored.ensures.ended, there) refl)

pub returns-in-Some-repeated-clause-replies : goal.returns-in-Some-repeated-clause-replies
returns-in-Some-repeated-clause-replies g c =
    let old = c.args.cluster.now.flat in
    let there = node_shown old c.nodes-nodes.result.now c.args.node c.in-Some.found.now c.nodes-nodes.ensures.value c.in-Some.ensures.found in
    let none = unrefused old c.args.node c.args.response c.in-Some.found.now there (sym c.is_bad_id.ensures ∙ c.if-is_bad_id.false) in
    let repeats = repeats_it old c.args.node c.args.response c.in-Some.found.now c.in-Some-repeated.reply c.in-Some-repeated.ensures in
    let again = is_again old c.args.node c.args.response c.in-Some.found.now true there repeats.0 in
    told_is old c.args.node c.args.response c.args.ended.now old c.in-Some-repeated.reply none (ap (option_and_then (λ (x : ClusterNode). x.kept)) there ∙ repeats.1)
    (ap (λ b. if b then old else after_processed_heartbeat old c.args.node c.args.response c.args.ended.now) (sym again))

pub returns-clause-replies : goal.returns-clause-replies
returns-clause-replies g c =
    let old = c.args.cluster.now.flat in
    let x = c.in-Some.found.now in
    let there = node_shown old c.nodes-nodes.result.now c.args.node x c.nodes-nodes.ensures.value c.in-Some.ensures.found in
    let none = unrefused old c.args.node c.args.response x there (sym c.is_bad_id.ensures ∙ c.if-is_bad_id.false) in
    let rising = subst (λ (t : NodeTable). IsRising 1 (map (λ node. node.number) t.present) t.next_node) c.nodes-nodes.ensures.value c.numbers_rise.ensures.nodes in
    let fresh = is_again old c.args.node c.args.response x false there (repeats_none old c.args.node c.args.response x c.in_default-repeated.ensures) in
    told_is old c.args.node c.args.response c.args.ended.now c.beat-reply.new.self.flat c.beat-reply.result none c.beat-reply.ensures.reply
    (processed old c.args.node c.args.response c.args.ended.now rising c.nodes-nodes.ensures.numbers none fresh c.end_named-ignored.new.self.flat c.beat-reply.new.self.flat c.end_named-ignored.result
    (rw c.as_slice.ensures.value at c.end_named-ignored.ensures.ended)
    (rw c.as_slice.ensures.value at c.end_named-ignored.ensures.ignored)
    c.beat-reply.ensures.flat
    ∙ ap (λ b. if b then old else after_processed_heartbeat old c.args.node c.args.response c.args.ended.now) (sym fresh))

pub nodes-nodes-requires : goal.nodes-nodes-requires
nodes-nodes-requires g c = search nodes_in_cluster

pub numbers_rise-requires : goal.numbers_rise-requires
numbers_rise-requires g c = search nodes_in_cluster

pub node-requires : goal.node-requires
node-requires g c = search (nodes_in_cluster, node_in_cluster)

pub is_bad_id-requires : goal.is_bad_id-requires
is_bad_id-requires g c = search node_in_cluster

pub repeated-requires : goal.repeated-requires
repeated-requires g c = search node_in_cluster

pub end_named-ignored-requires : goal.end_named-ignored-requires
end_named-ignored-requires g c = ((search), c.as_slice.ensures.few)
