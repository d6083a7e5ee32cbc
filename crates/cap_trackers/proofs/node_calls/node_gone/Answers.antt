use Rattle.cap_commit.proofs.Fitting.{nodes_in_cluster, node_in_cluster}
use Rattle.cap_trackers.proofs.Answering.{none_seen, some_seen, gone_refused, gone_is}
use Rattle.cap_trackers.proofs.node_calls.node_gone.Goals as goal

pub returns-then-is_none-clause-replies : goal.returns-then-is_none-clause-replies
returns-then-is_none-clause-replies g c = gone_refused c.args.cluster.now.flat c.args.node (none_seen c.args.cluster.now.flat c.nodes.result.now c.args.node c.node.result c.nodes.ensures.value c.node.ensures.found c.if-is_none.ensures)

pub drop_node-requires : goal.drop_node-requires
drop_node-requires g c =
    let there = some_seen c.args.cluster.now.flat c.nodes.result.now c.args.node c.node.result c.nodes.ensures.value c.node.ensures.found c.if-is_none.ensures in
    ((search), (rw c.end_all-ended.ensures.ended there, c.end_all-ended.ensures.none))

pub returns-clause-replies : goal.returns-clause-replies
returns-clause-replies g c =
    let there = some_seen c.args.cluster.now.flat c.nodes.result.now c.args.node c.node.result c.nodes.ensures.value c.node.ensures.found c.if-is_none.ensures in
    gone_is c.args.cluster.now.flat c.args.node c.end_all-ended.new.self.flat c.drop_node.new.self.flat c.end_all-ended.result there c.end_all-ended.ensures.count c.end_all-ended.ensures.ended c.drop_node.ensures.flat

pub nodes-requires : goal.nodes-requires
nodes-requires g c = search nodes_in_cluster

pub node-requires : goal.node-requires
node-requires g c = search (nodes_in_cluster, node_in_cluster)

pub end_all-ended-requires : goal.end_all-ended-requires
end_all-ended-requires g c = search
