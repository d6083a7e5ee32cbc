-- The flat cluster of the whole engine: plain lists of all that is there, by part.
use Rattle.std.specs.Prelude.{ℕ, Bool, List, [], Option, map, filter, find, ◌==◌, ◌&&◌, bytes_eq, if◌then◌else◌}
use Rattle.cap_base.specs.Settings.{Settings, QueueRow}
use Rattle.cap_model.specs.declared.ask.Key.{Key}
use Rattle.cap_model.specs.Asks.{same_key, Ask}
use Rattle.cap_model.specs.News.{Grant, AllocateReply}
use Rattle.cap_model.specs.declared.news.End.{End}
use Rattle.cap_model.specs.declared.replies.HeartbeatReply.{HeartbeatReply}

-- an active application: its leaf queue and user, its standing with its master, its asks in order of key, and the news not yet told
pub record App : Type 0 where
  pub number : ℕ
  pub leaf : List ℕ
  pub user : List ℕ
  pub registered : Bool
  pub response : ℕ
  pub kept : Option AllocateReply
  pub asks : List Ask
  pub grants : List Grant
  pub ends : List End

-- the active applications, in order of number
pub record AppTable : Type 0 where
  pub active : List App
  pub next : ℕ

-- a node that is present
pub record ClusterNode : Type 0 where
  pub number : ℕ
  pub host : List ℕ
  pub rack : List ℕ
  pub total : List ℕ
  pub response : ℕ
  pub kept : Option HeartbeatReply

-- a live container: the application and the key that it was granted for, and the node that it runs on
pub record Container : Type 0 where
  pub number : ℕ
  pub app : ℕ
  pub key : Key
  pub node : ℕ
  pub resource : List ℕ

-- room that a node keeps for an ask that does not fit there at present
pub record Reservation : Type 0 where
  pub app : ℕ
  pub key : Key
  pub node : ℕ
  pub resource : List ℕ

-- the nodes and the live containers, each in order of number, and the reservations in order of making
pub record NodeTable : Type 0 where
  pub present : List ClusterNode
  pub live : List Container
  pub reserved : List Reservation
  pub next_node : ℕ
  pub next_container : ℕ

-- a cluster of K resources
pub record Flat (K : ℕ) : Type 0 where
  pub settings : Settings
  pub apps : AppTable
  pub nodes : NodeTable

-- whether a reservation is for this key of this application
abbrev pub is_for : ℕ → Key → Reservation → Bool
is_for app key r = r.app == app && same_key r.key key

-- the ask for a key
abbrev pub ask_at : Key → List Ask → Option Ask
ask_at key asks = find (λ ask. same_key ask.key key) asks

-- no application; and no node and no container: each will be numbered from 1 on
abbrev pub no_apps : AppTable
no_apps = record { active = []; next = 1 }

abbrev pub no_nodes : NodeTable
no_nodes = record { present = []; live = []; reserved = []; next_node = 1; next_container = 1 }

-- the active application, the present node and the live container of a number
abbrev pub app_in : AppTable → ℕ → Option App
app_in table n = find (λ app. app.number == n) table.active

abbrev pub node_in : NodeTable → ℕ → Option ClusterNode
node_in table n = find (λ node. node.number == n) table.present

abbrev pub container_in : NodeTable → ℕ → Option Container
container_in table n = find (λ c. c.number == n) table.live

-- the live containers of an application, and those on a node
abbrev pub containers_of : NodeTable → ℕ → List Container
containers_of table n = filter (λ c. c.app == n) table.live

abbrev pub containers_on : NodeTable → ℕ → List Container
containers_on table n = filter (λ c. c.node == n) table.live

-- the table after a change of one application, or of one node
abbrev pub change_app : ℕ → (App → App) → AppTable → AppTable
change_app n change table = record table { active = map (λ app. if app.number == n then change app else app) table.active }

abbrev pub change_node : ℕ → (ClusterNode → ClusterNode) → NodeTable → NodeTable
change_node n change table = record table { present = map (λ node. if node.number == n then change node else node) table.present }

module _ {K : ℕ} where
  -- a cluster that was opened just now, with nothing in it
  abbrev pub opened_cluster : Settings → Flat K
  opened_cluster settings = record { settings = settings; apps = no_apps; nodes = no_nodes }

  -- the active application, the present node and the queue of that number or path
  abbrev pub app_at : Flat K → ℕ → Option App
  app_at cluster n = app_in cluster.apps n

  abbrev pub node_at : Flat K → ℕ → Option ClusterNode
  node_at cluster n = node_in cluster.nodes n

  abbrev pub queue_at : Flat K → List ℕ → Option QueueRow
  queue_at cluster path = find (λ q. bytes_eq q.path path) cluster.settings.queues

  -- the reservation that a node holds
  abbrev pub reservation_on : Flat K → ℕ → Option Reservation
  reservation_on cluster n = find (λ r. r.node == n) cluster.nodes.reserved

  -- the cluster after a change of one application, of one node, or of the reservations
  abbrev pub with_app : ℕ → (App → App) → Flat K → Flat K
  with_app n change cluster = record cluster { apps = change_app n change cluster.apps }

  abbrev pub with_node : ℕ → (ClusterNode → ClusterNode) → Flat K → Flat K
  with_node n change cluster = record cluster { nodes = change_node n change cluster.nodes }

  abbrev pub with_reserved : List Reservation → Flat K → Flat K
  with_reserved reserved cluster = record cluster { nodes = record cluster.nodes { reserved = reserved } }
