-- What a cluster keeps: its parts, the flat cluster that they are, and what they have to do with each other.
use Rattle.std.specs.Prelude.{◌≡◌, ℕ, ◌≤◌, ◌&&◌, ◌==◌, IsSome, Bool, true, false, List, filter, length, map, count_by, bytes_eq}
use Rattle.std.specs.List.{All}
use Rattle.cap_laws.specs.Reservations.{AreReserved}
use Rattle.cap_vector.specs.Vector.{amount}
use Rattle.cap_base.specs.Limits.{applications_max, resources_max, live_max}
use Rattle.cap_model.specs.Flat.{Flat, App, ClusterNode, NodeTable, app_at}
use Rattle.cap_base.specs.Members.{IsIn}
use Rattle.cap_base.specs.Paths.{is_under}
use Rattle.cap_model.specs.Uses.{queue_use, user_use}
use Rattle.cap_model.specs.Bounds.{IsLeaf}
use Rattle.cap_laws.specs.EngineLaws.{HasDistinctNumbers}
use Rattle.cap_tree.specs.Measure.{Measure}
use Rattle.cap_tree.specs.Queue.{of_user}
use Rattle.cap_tree.specs.Rows.{Row, IsAt, queues_of}
use Rattle.cap_asks.specs.Accounts.{Account}
use Rattle.cap_asks.specs.Apps.{HeldApps, is_waiting, live_of, position_of}
use Rattle.cap_asks.specs.Impossible.{Want, want_of}
use Rattle.cap_nodes.specs.Tables.{could_take}
use Rattle.cap_commit.specs.declared.limits.Limits.{Limits}

-- a cluster as contracts see it: the flat cluster, and beside it the rows of the tree and the accounts of the applications
pub record ClusterState (K : ℕ) : Type 0 where
  pub flat : Flat K
  pub rows : List Row
  pub accounts : List (ℕ × Account)

-- its parts
pub record Parts (K : ℕ) : Type 0 where
  pub rows : List Row
  pub limits : Limits K
  pub apps : HeldApps
  pub nodes : NodeTable

-- the numbers of applications that pass a test, in their order
abbrev pub numbers_of : (App → Bool) → List App → List ℕ
numbers_of test apps = map (λ app. app.number) (filter test apps)

-- whether an application is one of those that are followed, in a leaf that passes a test
abbrev pub waits_where : (ℕ → Bool) → (List ℕ → Bool) → App → Bool
waits_where followed leaf app = leaf app.leaf && followed app.number

-- a queue of the tree has the numbers of its own applications that are followed, in order, and counts those that are in it and under it
pub record IsWaitedAt (followed : ℕ → Bool) (apps : List App) (r : Row) : Type 0 where
  pub numbers : r.item.waiting ≡ numbers_of (waits_where followed (bytes_eq r.path)) apps
  pub count : r.item.waits ≡ count_by (waits_where followed (is_under r.path)) apps

-- each of these wants is out of reach: none of these nodes could take it, not even one that is empty
abbrev pub AreOutOfReach : List ClusterNode → List Want → Type 0
AreOutOfReach nodes wants = (want : Want) → IsIn want wants → All (λ node. could_take want.place want.resource node ≡ false) nodes

-- what an application's asks want
abbrev pub wants_of : App → List Want
wants_of app = map want_of app.asks

-- an application that is followed waits; what one wants that waits and is not followed is out of reach
pub record IsKnown (nodes : List ClusterNode) (followed : ℕ → Bool) (app : App) : Type 0 where
  pub waits : followed app.number ≡ true → is_waiting app ≡ true
  pub reach : followed app.number ≡ false → is_waiting app ≡ true → AreOutOfReach nodes (wants_of app)

-- the tree follows applications that wait: all whose asks are not out of reach, and all where none is asleep
pub record FollowsWaiting (asleep : Bool) (nodes : List ClusterNode) (apps : List App) (rows : List Row) : Type 0 where
  pub followed : ℕ → Bool
  pub waiting : All (IsWaitedAt followed apps) rows
  pub known : All (IsKnown nodes followed) apps
  pub all : asleep ≡ false → All (λ app. is_waiting app ≡ true → followed app.number ≡ true) apps

module _ {K : ℕ} where
  -- the flat cluster of these parts
  abbrev pub flat_of : Parts K → Flat K
  flat_of p = record {
    settings = record {
      queues = queues_of p.rows;
      minimum_allocation = p.limits.minimum_allocation;
      maximum_allocation = p.limits.maximum_allocation;
      application_limit = p.limits.application_limit;
    };
    apps = p.apps.table;
    nodes = p.nodes;
  }

  abbrev pub cluster_of : Parts K → ClusterState K
  cluster_of p = record { flat = flat_of p; rows = p.rows; accounts = p.apps.accounts }

  -- what the flat cluster counts of a user in a leaf: its use, or its active applications
  abbrev pub of_cluster : Flat K → List ℕ → List ℕ → Measure → ℕ
  of_cluster cluster leaf user (Measure.uses k) = amount (user_use cluster leaf user) k
  of_cluster cluster leaf user Measure.active = count_by (λ app. bytes_eq leaf app.leaf && bytes_eq user app.user) cluster.apps.active
  of_cluster cluster leaf user Measure.waiting = 0

  -- a queue of the tree keeps what the flat cluster counts: how many applications are active in it and under it, what they use,
  -- and both for each user of its own
  pub record IsRowOf (cluster : Flat K) (r : Row) : Type 0 where
    pub active : r.item.active ≡ count_by (λ app. is_under r.path app.leaf) cluster.apps.active
    pub used : r.item.used ≡ queue_use cluster r.path
    pub users : (user : List ℕ) (m : Measure) → of_user user m r.item.users ≡ of_cluster cluster r.path user m

  -- how many live containers an application has
  abbrev pub live_for : ℕ → Flat K → ℕ
  live_for n cluster = count_by (λ c. c.app == n) cluster.nodes.live

  -- an application is in a leaf, whose position it knows
  pub record IsInLeaf (p : Parts K) (app : App) : Type 0 where
    pub leaf : IsLeaf (flat_of p) app.leaf
    pub position : IsAt p.rows app.leaf (position_of app.number p.apps.accounts)

  -- each row keeps what the flat cluster counts; each application is in a leaf, whose position it knows, and knows how many of its
  -- containers are live; each live container and each reservation is an active application's; reservations are on different nodes,
  -- each on one that has as much; the numbers of containers are distinct; no more than allowed of each
  pub record AreConsistent (p : Parts K) : Type 0 where
    pub tied : All (IsRowOf (flat_of p)) p.rows
    pub placed : All (IsInLeaf p) p.apps.table.active
    pub counted : (n : ℕ) → live_of n p.apps.accounts ≡ live_for n (flat_of p)
    pub owned : All (λ c. IsSome (app_at (flat_of p) c.app)) p.nodes.live
    pub reserved : All (λ r. IsSome (app_at (flat_of p) r.app)) p.nodes.reserved
    pub reservations : AreReserved p.nodes.present p.nodes.reserved
    pub numbers : HasDistinctNumbers (flat_of p)
    pub limit : p.limits.application_limit ≤ applications_max
    pub few : length p.apps.table.active ≤ applications_max
    pub few_live : length p.nodes.live ≤ live_max
    pub resources : K ≤ resources_max

  -- and the tree follows the applications that wait, and an ask is known as impossible only where no present node could take it
  pub record IsCluster (asleep : Bool) (p : Parts K) : Type 0 where
    pub consistent : AreConsistent p
    pub waiting : FollowsWaiting asleep p.nodes.present p.apps.table.active p.rows
    pub impossible : AreOutOfReach p.nodes.present p.apps.impossible
