-- What a snapshot keeps, and the sight that it is.
use Rattle.std.specs.Prelude.{◌≡◌, ℕ, ◌+◌, ◌<◌, ◌≤◌, List, [], length, slice_index, Some, IsSome, map}
use Rattle.std.specs.List.{All, slice_get}
use Rattle.std.specs.Option.{option_map_or}
use Rattle.cap_base.specs.Members.{IsIn}
use Rattle.cap_model.specs.Sight.{AppSight, NodeSight, QueueSight, Sight}
use Rattle.cap_tree.specs.Queue.{use_of, user_row}
use Rattle.cap_tree.specs.Rows.{Row, settings_of_row}
use Rattle.cap_farm.specs.Offers.{IsWhole}
use Rattle.cap_farm.specs.Service.{IsWaiter}

-- a snapshot: the rows of the tree and the registered applications as a proposal sees them; of these the ones that have asks, each known by its
-- index in order of number; the nodes in order of number, how many containers are live, and the number of the next
pub record Seen : Type 0 where
  pub rows : List Row
  pub apps : List AppSight
  pub waiting : List AppSight
  pub nodes : List NodeSight
  pub live : ℕ
  pub next_container : ℕ

-- a row of K resources, as a proposal sees it
abbrev pub queue_seen : ℕ → Row → QueueSight
queue_seen K r = record { row = settings_of_row r; used = r.item.used; used_by = λ user. use_of K (user_row user r.item.users) }

-- the sight that a snapshot of K resources is
abbrev pub sight_in : (K : ℕ) → Seen → Sight K
sight_in K seen = record {
  queues = map (queue_seen K) seen.rows;
  apps = seen.apps;
  nodes = seen.nodes;
  live = seen.live;
  next_container = seen.next_container;
}

-- the application of an index, one that nobody submitted where there is none
abbrev pub app_nth : List AppSight → ℕ → AppSight
app_nth waiting index = option_map_or (λ app. app) (slice_get waiting index) (record { number = 0; leaf = []; user = []; asks = [] })

-- the applications of a sight that have asks, in order of number
pub record AreWaiters {K : ℕ} (sight : Sight K) (waiting : List AppSight) : Type 0 where
  pub each : All (IsWaiter sight) waiting
  pub all : (app : AppSight) → IsWaiter sight app → IsIn app waiting
  pub rise : (i j : ℕ) (a b : AppSight) → i < j → slice_get waiting i ≡ Some a → slice_get waiting j ≡ Some b → a.number < b.number

-- from a node on so many hold reservations, one after another
pub record IsSkip (nodes : List NodeSight) (index n : ℕ) : Type 0 where
  pub within : index + n ≤ length nodes
  pub hold : (i : ℕ) (node : NodeSight) → index ≤ i → i < index + n → slice_get nodes i ≡ Some node → IsSome node.reservation

-- this is so many of each node
pub record AreSkips (nodes : List NodeSight) (skips : List ℕ) : Type 0 where
  pub count : length skips ≡ length nodes
  pub each : (index : ℕ) → index < length nodes → IsSkip nodes index (slice_index skips index)

-- a snapshot that shows a whole sight, and knows the applications that wait
pub record IsSnapshot (K : ℕ) (seen : Seen) : Type 0 where
  pub whole : IsWhole (sight_in K seen)
  pub waiters : AreWaiters (sight_in K seen) seen.waiting
