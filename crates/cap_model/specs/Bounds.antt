-- The bounds that hold in every state of a run.
use Rattle.cap_base.specs.Trees.{IsTree, StandBelow}
use Rattle.std.specs.Prelude.{◌≡◌, ℕ, ◌≤◌, Bool, true, false, List, [], ◌∷◌, Option, Some, None, IsSome, map, filter, length, ◌==◌, nat_le}
use Rattle.std.specs.List.{All, list_any}
use Rattle.cap_base.specs.Members.{IsRising}
use Rattle.cap_vector.specs.Vector.{amount_max, IsWithin}
use Rattle.cap_base.specs.Cascade.{holds_of}
use Rattle.cap_base.specs.Amounts.{fits, times, sum_where}
use Rattle.cap_base.specs.Settings.{QueueRow}
use Rattle.cap_model.specs.declared.ask.Key.{Key}
use Rattle.cap_model.specs.Flat.{Flat, ClusterNode, Reservation, is_for, ask_at, app_at, node_at, queue_at}
use Rattle.cap_base.specs.Paths.{is_child_of}
use Rattle.cap_base.specs.Limits.{nodes_max, live_max, number_end}
use Rattle.cap_model.specs.Submit.{has_children}
use Rattle.cap_model.specs.RegisterNode.{total_of_nodes}
use Rattle.cap_model.specs.Uses.{queue_use, user_use, node_held}

-- a use within a maximum, where there is one
abbrev pub FitsMaximum : List ℕ → Option (List ℕ) → Type 0
FitsMaximum used None = Unit {0}
FitsMaximum used (Some most) = fits used most ≡ true

-- no two reservations are of one node
abbrev pub AreApart : List Reservation → Type 0
AreApart [] = Unit {0}
AreApart (r ∷ rs) = (list_any (λ s. r.node == s.node) rs ≡ Bool.false) × AreApart rs

module _ {K : ℕ} where
  -- a queue without children
  pub record IsLeaf (cluster : Flat K) (path : List ℕ) : Type 0 where
    pub present : IsSome (queue_at cluster path)
    pub childless : has_children cluster path ≡ false

  -- an application that is active, and a node that is present
  abbrev pub AreThere : Flat K → ℕ → ℕ → Type 0
  AreThere cluster app node = IsSome (app_at cluster app) × IsSome (node_at cluster node)

  -- what holds of every cluster beside its bounds: the queues are a tree, each before those under it, applications are in leaf queues,
  -- applications and nodes have distinct numbers below the next, and each live container and each reservation has its application and its node
  pub record IsWellFormed (cluster : Flat K) : Type 0 where
    pub tree : IsTree cluster.settings.queues
    pub order : StandBelow cluster.settings.queues
    pub leaves : All (λ app. IsLeaf cluster app.leaf) cluster.apps.active
    pub apps : IsRising 1 (map (λ app. app.number) cluster.apps.active) cluster.apps.next
    pub nodes : IsRising 1 (map (λ node. node.number) cluster.nodes.present) cluster.nodes.next_node
    pub live : All (λ c. AreThere cluster c.app c.node) cluster.nodes.live
    pub reserved : All (λ r. AreThere cluster r.app r.node) cluster.nodes.reserved

  -- a queue's use is within its maximum, and each user's use there within the user limit
  pub record IsQueueBounded (cluster : Flat K) (q : QueueRow) : Type 0 where
    pub maximum : FitsMaximum (queue_use cluster q.path) q.maximum
    pub users : (user : List ℕ) → fits (user_use cluster q.path user) (times q.factor q.guaranteed) ≡ true

  -- a queue with children uses what its children use together
  abbrev pub IsSumOfChildren : Flat K → QueueRow → Type 0
  IsSumOfChildren cluster q =
      has_children cluster q.path ≡ true → queue_use cluster q.path ≡ sum_where K (λ child. is_child_of q.path child.path) (λ child. queue_use cluster child.path) cluster.settings.queues

  -- a node's live containers are within its total
  abbrev pub IsNodeBounded : Flat K → ClusterNode → Type 0
  IsNodeBounded cluster node = fits (node_held cluster node.number) node.total ≡ true

  -- how many reservations there are for a key of an application
  abbrev pub reservations_for : Flat K → ℕ → Key → ℕ
  reservations_for cluster app key = length (filter (is_for app key) cluster.nodes.reserved)

  -- a reservation fits the total of its node, and its key has no more reservations than its ask counts
  pub record IsReservationBounded (cluster : Flat K) (r : Reservation) : Type 0 where
    pub node : holds_of (λ node. fits r.resource node.total) (node_at cluster r.node) ≡ true
    pub ask : holds_of (λ app. holds_of (λ ask. nat_le (reservations_for cluster r.app r.key) ask.count) (ask_at r.key app.asks)) (app_at cluster r.app) ≡ true

  -- the bounds of a well-formed cluster: each queue the sum of its children, no node over its total, at most one reservation a node, which fits
  -- there and is asked for, and no container number twice. A Refresh may lower a maximum or a user limit below what is used: of these
  -- LimitsAreMetOrNotRisen tells
  pub record IsBounded (cluster : Flat K) : Type 0 where
    pub formed : IsWellFormed cluster
    pub parents : All (IsSumOfChildren cluster) cluster.settings.queues
    pub nodes : All (IsNodeBounded cluster) cluster.nodes.present
    pub reservations : All (IsReservationBounded cluster) cluster.nodes.reserved
    pub apart : AreApart cluster.nodes.reserved
    pub numbers : IsRising 1 (map (λ c. c.number) cluster.nodes.live) cluster.nodes.next_container

  -- how far a cluster goes: the nodes have together at most the greatest amount of each resource, at most so many nodes are present and
  -- so many containers live, and no next number is past the end of numbers
  pub record IsWithinSizes (cluster : Flat K) : Type 0 where
    pub totals : IsWithin amount_max (total_of_nodes cluster)
    pub nodes : length cluster.nodes.present ≤ nodes_max
    pub live : length cluster.nodes.live ≤ live_max
    pub app_numbers : cluster.apps.next ≤ number_end
    pub node_numbers : cluster.nodes.next_node ≤ number_end
    pub container_numbers : cluster.nodes.next_container ≤ number_end
