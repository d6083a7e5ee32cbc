-- The use of queues, users and nodes: filtered sums over the live containers and the reservations.
use Rattle.std.specs.Prelude.{ℕ, ◌-◌, Bool, List, ◌++◌, map, filter, length, ◌==◌, ◌&&◌, bytes_eq}
use Rattle.cap_vector.specs.Vector.{less}
use Rattle.cap_base.specs.Cascade.{holds_of}
use Rattle.cap_base.specs.Amounts.{sum_where}
use Rattle.cap_model.specs.Asks.{Ask}
use Rattle.cap_model.specs.Flat.{Flat, App, ClusterNode, Container, NodeTable, Reservation, app_at, is_for}
use Rattle.cap_base.specs.Paths.{is_under}

-- what a live container or a reservation counts for: its application and its resource
pub record Holding : Type 0 where
  pub app : ℕ
  pub resource : List ℕ

abbrev pub of_container : Container → Holding
of_container c = record { app = c.app; resource = c.resource }

abbrev pub of_reservation : Reservation → Holding
of_reservation r = record { app = r.app; resource = r.resource }

-- what the live containers on a node hold
abbrev pub held_on : ℕ → NodeTable → ℕ → List ℕ
held_on K table n = sum_where K (λ c. c.node == n) (λ c. c.resource) table.live

module _ {K : ℕ} where
  -- all that counts as use
  abbrev pub holdings : Flat K → List Holding
  holdings cluster = map of_container cluster.nodes.live ++ map of_reservation cluster.nodes.reserved

  -- the sum of all that the applications hold that pass a test
  abbrev pub use_of : Flat K → (App → Bool) → List ℕ
  use_of cluster test = sum_where K (λ h. holds_of test (app_at cluster h.app)) (λ h. h.resource) (holdings cluster)

  -- the use of a queue: of all applications in it and under it
  abbrev pub queue_use : Flat K → List ℕ → List ℕ
  queue_use cluster path = use_of cluster (λ app. is_under path app.leaf)

  -- the use of a user in a leaf queue
  abbrev pub user_use : Flat K → List ℕ → List ℕ → List ℕ
  user_use cluster leaf user = use_of cluster (λ app. bytes_eq leaf app.leaf && bytes_eq user app.user)

  -- what a node's live containers hold
  abbrev pub node_held : Flat K → ℕ → List ℕ
  node_held cluster n = held_on K cluster.nodes n

  -- what a node has left: a reservation does not lower it
  abbrev pub node_free : Flat K → ClusterNode → List ℕ
  node_free cluster node = less node.total (node_held cluster node.number)

  -- how many containers an ask still wants beyond those that room is reserved for
  abbrev pub wanted : Flat K → ℕ → Ask → ℕ
  wanted cluster app ask = ask.count - length (filter (is_for app ask.key) cluster.nodes.reserved)
