use Rattle.cap_live.proofs.Sizes.{cluster_of_few, nodes_of_few}
use Rattle.cap_live.proofs.Prelude.{◌∙◌, ap, subst, map, All, AppTable, AreKept, ClusterState, IsRising, NodeTable}
use Rattle.cap_live.proofs.Asks.{all_by_key}
use Rattle.cap_live.proofs.Nodes.{nodes_whole}
use Rattle.cap_live.proofs.live.LiveFarm.node_count.Goals as goal

pub returns-clause-whole : goal.returns-clause-whole
returns-clause-whole g c =
    let value = c.nodes-nodes.ensures.value ∙ ap (λ (s : ClusterState g.row.K). s.flat.nodes) c.self.view_is in
    let table = c.apps.ensures.table ∙ ap (λ (s : ClusterState g.row.K). s.flat.apps) c.self.view_is in
    record {
      asks = all_by_key c.args.self.now.flat (subst (λ (t : AppTable). All (λ app. AreKept app.asks) t.active) table c.asks_rise.ensures);
      nodes = nodes_whole c.args.self.now.flat (subst (λ (t : NodeTable). IsRising 1 (map (λ node. node.number) t.present) t.next_node) value c.numbers_rise.ensures.nodes);
    }

pub nodes-nodes-requires : goal.nodes-nodes-requires
nodes-nodes-requires g c = (cluster_of_few _ c.self.invariant, nodes_of_few _ c.self.invariant)
