-- The sight of the parts of a cluster, which a snapshot of them is.
use Rattle.std.specs.Prelude.{◌≡◌, ℕ, List, map, filter, find, length, ◌==◌}
use Rattle.cap_base.specs.Members.{IsRising}
use Rattle.cap_model.specs.Flat.{AppTable, ClusterNode, NodeTable}
use Rattle.cap_model.specs.Sight.{Sight, NodeSight, app_sight}
use Rattle.cap_tree.specs.Rows.{Row}
use Rattle.cap_nodes.specs.Tables.{free_on}
use Rattle.cap_copy.specs.Snapshot.{Seen, queue_seen, sight_in}

-- a node of a table, as a proposal sees it
abbrev pub node_seen : ℕ → NodeTable → ClusterNode → NodeSight
node_seen K table node = record {
  number = node.number;
  host = node.host;
  rack = node.rack;
  total = node.total;
  free = free_on K table node.number;
  reservation = find (λ r. r.node == node.number) table.reserved;
}

-- what is seen of a tree's rows, the active applications and the nodes
abbrev pub sight_of_parts : (K : ℕ) → List Row → AppTable → NodeTable → Sight K
sight_of_parts K rows apps nodes = record {
  queues = map (queue_seen K) rows;
  apps = map app_sight (filter (λ app. app.registered) apps.active);
  nodes = map (node_seen K nodes) nodes.present;
  live = length nodes.live;
  next_container = nodes.next_container;
}

-- a snapshot of the parts: the same rows, and the same sight; and the numbers of the nodes rise
pub record IsSnapshotOf (K : ℕ) (tree : List Row) (apps : AppTable) (nodes : NodeTable) (seen : Seen) : Type 0 where
  pub rows : seen.rows ≡ tree
  pub sight : sight_in K seen ≡ sight_of_parts K tree apps nodes
  pub numbers : IsRising 1 (map (λ node. node.number) nodes.present) nodes.next_node
