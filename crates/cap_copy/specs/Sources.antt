-- What a cluster's copy and a snapshot were taken of, for contracts.
use Rattle.std.specs.Prelude.{◌≡◌, ℕ, ◌≤◌, List, [], ◌∷◌, map, length, Some}
use Rattle.std.specs.List.{All}
use Rattle.cap_base.specs.Limits.{applications_max, resources_max}
use Rattle.cap_base.specs.Members.{IsRising}
use Rattle.cap_model.specs.Flat.{NodeTable, no_apps, no_nodes}
use Rattle.cap_model.specs.Sight.{AppSight, NodeSight, Sight, app_sight}
use Rattle.cap_tree.specs.Rows.{AreRows, IsAt, Row}
use Rattle.cap_copy.specs.SeenTree.{SeenRows}
use Rattle.cap_asks.specs.Accounts.{AreKept, HeldApp}
use Rattle.cap_asks.specs.Apps.{HeldApps, account_of, position_of, waiting_of}
use Rattle.cap_copy.specs.AskEntry.{AskEntry}
use Rattle.cap_copy.specs.Entries.{asks_of_all, registered_of}
use Rattle.cap_copy.specs.AskRanges.{AreRanges}
use Rattle.cap_copy.specs.SeenApp.{AreSeen, HaveAsks, SeenApp, range_in, user_used}
use Rattle.cap_copy.specs.Snapshot.{AreSkips, IsSnapshot, Seen}
use Rattle.cap_copy.specs.Taking.{node_seen, sight_of_parts}

-- the applications and the nodes that were copied
abbrev pub held_apps_in : List (HeldApps × NodeTable) → HeldApps
held_apps_in [] = record { table = no_apps; accounts = []; impossible = [] }
held_apps_in (source ∷ sources) = source.0

abbrev pub nodes_in : List (HeldApps × NodeTable) → NodeTable
nodes_in [] = no_nodes
nodes_in (source ∷ sources) = source.1

-- the registered applications as a proposal sees them
abbrev pub apps_in : List (HeldApps × NodeTable) → List AppSight
apps_in sources = map app_sight (registered_of (held_apps_in sources).table.active)

-- the parts of a cluster: the rows of its tree, its applications and its nodes
pub record Parts : Type 0 where
  pub rows : List Row
  pub apps : HeldApps
  pub nodes : NodeTable

-- what is seen of them
abbrev pub sight_of_copy : (K : ℕ) → Parts → Sight K
sight_of_copy K parts = sight_of_parts K parts.rows parts.apps.table parts.nodes

-- what is copied of the parts: each application that waits, with the asks of all, the nodes as they are seen, how many containers are live, and the
-- number of the next
pub record IsCopy (K : ℕ) (parts : Parts) (waiting : List HeldApp) (seen : List SeenApp) (asks : List AskEntry) (nodes : List NodeSight) (live next_container : ℕ) : Type 0 where
  pub resources : K ≤ resources_max
  pub few : length parts.apps.table.active ≤ applications_max
  pub placed : All (λ app. IsAt parts.rows app.leaf (position_of app.number parts.apps.accounts)) parts.apps.table.active
  pub rising : IsRising 1 (map (λ app. app.number) parts.apps.table.active) parts.apps.table.next
  pub numbers : IsRising 1 (map (λ node. node.number) parts.nodes.present) parts.nodes.next_node
  pub apps_are : map (λ r. r.app) waiting ≡ waiting_of parts.apps.table.active
  pub accounts_are : All (λ r. account_of r.app.number parts.apps.accounts ≡ Some r.account) waiting
  pub kept : All (λ r. AreKept r.app.asks) waiting
  pub seen_are : AreSeen K parts.rows waiting asks seen
  pub asks_are : asks ≡ asks_of_all [] (map (λ r. r.app) waiting)
  pub nodes_are : nodes ≡ map (node_seen K parts.nodes) parts.nodes.present
  pub live_is : live ≡ length parts.nodes.live
  pub next_is : next_container ≡ parts.nodes.next_container

-- and it has room for all that is arranged: in the tree nothing waits yet
pub record IsCopied (K : ℕ) (parts : Parts) (waiting : List HeldApp) (tree : SeenRows) (seen : List SeenApp) (asks : List AskEntry) (nodes : List NodeSight) (skips : List ℕ) (live next_container : ℕ) : Type 0 where
  pub copied : IsCopy K parts waiting seen asks nodes live next_container
  pub rows_are : AreRows parts.rows
  pub none : tree.waiting ≡ []
  pub room : length seen ≤ tree.room
  pub skips_are : length skips ≡ length nodes

-- a snapshot of these: a tree, the registered applications, those that wait, the nodes, how many containers are live, and the number of the next
abbrev pub seen_of : SeenRows → List AppSight → List SeenApp → List NodeSight → ℕ → ℕ → Seen
seen_of tree registered apps nodes live next_container = record {
  rows = tree.rows;
  apps = registered;
  waiting = map (λ a. app_sight a.held.app) apps;
  nodes = nodes;
  live = live;
  next_container = next_container;
}

-- a snapshot of few kinds of resources, whose applications wait in its tree, know their leaves there, what their users use in them and where their
-- asks lie, which want what they want beside the reservations of the nodes; and of each node it knows how many from it on hold reservations
pub record IsStored (K : ℕ) (tree : SeenRows) (apps : List SeenApp) (asks : List AskEntry) (skips : List ℕ) (seen : Seen) : Type 0 where
  pub resources : K ≤ resources_max
  pub few : length apps ≤ applications_max
  pub is : IsSnapshot K seen
  pub rows_are : AreRows tree.rows
  pub waiting : tree.waiting ≡ map (λ a. a.held.account.position) apps
  pub placed : All (λ a. IsAt tree.rows a.held.app.leaf a.held.account.position) apps
  pub used : All (λ a. a.used ≡ user_used K tree.rows a.held) apps
  pub have : HaveAsks seen.nodes asks apps
  pub ranges : AreRanges asks (map range_in apps)
  pub skips_are : AreSkips seen.nodes skips
