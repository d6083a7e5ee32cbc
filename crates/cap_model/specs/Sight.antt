-- The sight of a cluster: all that a proposal depends on, and nothing else.
use Rattle.std.specs.Prelude.{ℕ, ◌-◌, List, Option, map, find, filter, count_by, length, ◌==◌, bytes_eq}
use Rattle.cap_base.specs.Cascade.{holds_of}
use Rattle.cap_base.specs.Settings.{QueueRow}
use Rattle.cap_model.specs.Asks.{Ask}
use Rattle.cap_model.specs.Flat.{Flat, App, ClusterNode, Reservation, is_for, reservation_on}
use Rattle.cap_base.specs.Paths.{is_under}
use Rattle.cap_model.specs.Uses.{queue_use, user_use, node_free}

-- a queue, its use, and what each user uses in it
pub record QueueSight : Type 0 where
  pub row : QueueRow
  pub used : List ℕ
  pub used_by : List ℕ → List ℕ

-- a registered application and its asks
pub record AppSight : Type 0 where
  pub number : ℕ
  pub leaf : List ℕ
  pub user : List ℕ
  pub asks : List Ask

-- a node, what it has left, and the reservation that it holds
pub record NodeSight : Type 0 where
  pub number : ℕ
  pub host : List ℕ
  pub rack : List ℕ
  pub total : List ℕ
  pub free : List ℕ
  pub reservation : Option Reservation

-- the queues with their use, the registered applications, the nodes, the number of live containers and the next container number
pub record Sight (K : ℕ) : Type 0 where
  pub queues : List QueueSight
  pub apps : List AppSight
  pub nodes : List NodeSight
  pub live : ℕ
  pub next_container : ℕ

abbrev pub app_sight : App → AppSight
app_sight app = record { number = app.number; leaf = app.leaf; user = app.user; asks = app.asks }

module _ {K : ℕ} where
  abbrev pub queue_sight : Flat K → QueueRow → QueueSight
  queue_sight cluster row = record { row = row; used = queue_use cluster row.path; used_by = user_use cluster row.path }

  abbrev pub node_sight : Flat K → ClusterNode → NodeSight
  node_sight cluster node = record {
    number = node.number;
    host = node.host;
    rack = node.rack;
    total = node.total;
    free = node_free cluster node;
    reservation = reservation_on cluster node.number;
  }

  -- what is seen of a cluster
  abbrev pub sight_of : Flat K → Sight K
  sight_of cluster = record {
    queues = map (queue_sight cluster) cluster.settings.queues;
    apps = map app_sight (filter (λ app. app.registered) cluster.apps.active);
    nodes = map (node_sight cluster) cluster.nodes.present;
    live = length cluster.nodes.live;
    next_container = cluster.nodes.next_container;
  }

  -- the queue of that path, the registered application and the node of that number
  abbrev pub seen_queue : Sight K → List ℕ → Option QueueSight
  seen_queue sight path = find (λ q. bytes_eq q.row.path path) sight.queues

  abbrev pub seen_app : Sight K → ℕ → Option AppSight
  seen_app sight n = find (λ app. app.number == n) sight.apps

  abbrev pub seen_node : Sight K → ℕ → Option NodeSight
  seen_node sight n = find (λ node. node.number == n) sight.nodes

  -- the queues from the root down to a leaf, in order of level
  abbrev pub queues_to : Sight K → List ℕ → List QueueSight
  queues_to sight leaf = filter (λ q. is_under q.row.path leaf) sight.queues

  -- how many containers an ask still wants beyond those that nodes hold room for
  abbrev pub still_wanted : Sight K → ℕ → Ask → ℕ
  still_wanted sight app ask = ask.count - count_by (λ node. holds_of (is_for app ask.key) node.reservation) sight.nodes
