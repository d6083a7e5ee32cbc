-- The rows of a tree of queues.
use Rattle.std.specs.Prelude.{◌≡◌, ℕ, ◌≤◌, Bool, true, false, if◌then◌else◌, ◌++◌, ◌∷◌, [], bytes_eq, nat_eq, List, Option, None, map, filter, find, length}
use Rattle.smallvec.specs.SmallVec.{SmallVec}
use Rattle.std.specs.Option.{option_map_or}
use Rattle.std.specs.List.{All, list_all, list_any, starts_with}
use Rattle.cap_base.specs.Settings.{QueueRow}
use Rattle.cap_base.specs.Paths.{is_under, name_of}
use Rattle.cap_base.specs.Listing.{IsListing}
use Rattle.cap_tree.specs.Finding.{IsStart}
use Rattle.cap_tree.specs.declared.found.Found.{Found}
use Rattle.cap_tree.specs.declared.found.Found.TheVariants.{Leaf, Parent, Missing}
use Rattle.cap_tree.specs.Spot.{Spot, first, first_of, leads_to, item_at, path_at, IsPosition}
use Rattle.cap_tree.specs.Branch.{root_count}
use Rattle.cap_tree.specs.Counted.{AreWaiting}
use Rattle.cap_tree.specs.Measure.{MayChange}
use Rattle.cap_tree.specs.Count.{Count, of_count, zero_count, one_app, use_alone}
use Rattle.cap_tree.specs.Queue.{Queue, of_queue, user_row, moved_above, moved_at, served_above, waiting_above, waiting_less, waiting_more, with_running, with_settings}
use Rattle.cap_base.specs.Texts.{dot}

-- a row: the queue's position, its dotted path, and what it holds
abbrev pub Row : Type 0
Row = Spot Queue

-- the settings that the rows show
abbrev pub settings_of_row : Row → QueueRow
settings_of_row r = record { path = r.path; guaranteed = r.item.guaranteed; maximum = r.item.maximum; factor = r.item.factor; running = r.item.running }

abbrev pub queues_of : List Row → List QueueRow
queues_of rows = map settings_of_row rows

-- a position leads to another exactly where the path is the other's, or begins it before a dot
abbrev pub PositionsArePaths : List Row → Type 0
PositionsArePaths rows = All (λ r. All (λ s. leads_to r.position s.position ≡ is_under r.path s.path) rows) rows

-- a queue has the last name of its path
abbrev pub HasLastName : Row → Type 0
HasLastName r = r.item.name ≡ name_of r.path

-- the rows of a tree: each path once, each queue before those under it and with the last name of its path, at most 15 levels under the root
pub record AreRows (rows : List Row) : Type 0 where
  pub listing : IsListing (queues_of rows)
  pub paths : PositionsArePaths rows
  pub short : All (λ r. length r.position ≤ 15) rows
  pub names : All HasLastName rows

-- the row after a change at the queue of that path, and at those above it
abbrev pub changed_at : (Queue → Queue) → (Queue → Queue) → List ℕ → Row → Row
changed_at above at path r =
    if bytes_eq r.path path then record r { item = at r.item } else (if is_under r.path path then record r { item = above r.item } else r)

-- after a part of a user's count in the leaf of that path has moved
abbrev pub moved_row : ℕ → List ℕ → List ℕ → Count → Count → Row → Row
moved_row K path user old new = changed_at (moved_above old new) (moved_at K user old new) path

-- the rows after a part of a user's count in the leaf at the position has moved
abbrev pub moved_rows : ℕ → List ℕ → List ℕ → Count → Count → List Row → List Row
moved_rows K position user old new rows = map (moved_row K (path_at position rows) user old new) rows

-- after one more application of the user has entered there, after one has left, and after some of the user's use is given back
abbrev pub entered_row : ℕ → List ℕ → List ℕ → Row → Row
entered_row K path user = moved_row K path user (zero_count K) (one_app K)

abbrev pub left_row : ℕ → List ℕ → List ℕ → Row → Row
left_row K path user = moved_row K path user (one_app K) (zero_count K)

abbrev pub lowered_row : ℕ → List ℕ → List ℕ → List ℕ → Row → Row
lowered_row K path user r = moved_row K path user (use_alone r) (zero_count K)

-- after the use of a user there has changed from old to new
abbrev pub applied_row : ℕ → List ℕ → List ℕ → List ℕ → List ℕ → Row → Row
applied_row K path user old new = moved_row K path user (use_alone old) (use_alone new)

-- after an application of the leaf of that path waits there, and after it does so no more
abbrev pub waiting_row : ℕ → List ℕ → Row → Row
waiting_row n path = changed_at waiting_above (waiting_more n) path

abbrev pub served_row : ℕ → List ℕ → Row → Row
served_row n path = changed_at served_above (waiting_less n) path

-- with the queue's own state
abbrev pub with_state : List ℕ → Bool → Row → Row
with_state path running r = if bytes_eq r.path path then record r { item = with_running running r.item } else r

-- with the settings of a row, at the queue of its path
abbrev pub with_row : QueueRow → Row → Row
with_row row r = if bytes_eq r.path row.path then record r { item = with_settings row r.item } else r

-- with the settings of the first of these rows that has its path
abbrev pub with_row_of_path : List QueueRow → Row → Row
with_row_of_path queues r = option_map_or (λ q. record r { item = with_settings q r.item }) (find (λ q. bytes_eq q.path r.path) queues) r

-- the row of a user in the queue of a position
abbrev pub user_row_at : List ℕ → List ℕ → List Row → Option Count
user_row_at position user rows = option_map_or (λ q. user_row user q.users) (item_at position rows) None

-- how many applications are active in all
abbrev pub active_in : List Row → ℕ
active_in rows = first_of (λ q. q.active) rows

-- where a part of what is counted at the root moves, it grows no more, or stays within the most
abbrev pub HasRoomAtRoot : Count → Count → List Row → Type 0
HasRoomAtRoot old new rows = MayChange (root_count of_queue rows) (of_count old) (of_count new)

-- what is used at the queue of a position
abbrev pub used_at : List ℕ → List Row → List ℕ
used_at position rows = option_map_or (λ q. q.used) (item_at position rows) []

-- what is used in all
abbrev pub root_use : List Row → List ℕ
root_use rows = option_map_or (λ q. q.used) (first rows) []

-- the rows on the way from the root to a path
abbrev pub rows_to : List ℕ → List Row → List Row
rows_to path rows = filter (λ r. is_under r.path path) rows

-- the queues of these rows
abbrev pub items_to : List ℕ → List Row → List Queue
items_to path rows = map (λ r. r.item) (rows_to path rows)

-- whether the queue of that path, and each above it, runs
abbrev pub is_running : List Row → List ℕ → Bool
is_running rows path = list_all (λ q. q.running) (filter (λ q. is_under q.path path) (queues_of rows))

-- whether a queue stands below the path
abbrev pub has_children : List Row → List ℕ → Bool
has_children rows path = list_any (λ q. starts_with nat_eq q.path (path ++ dot ∷ [])) (queues_of rows)

-- the position is that of the queue with the path
pub record IsAt (rows : List Row) (path position : List ℕ) : Type 0 where
  pub present : IsPosition rows position
  pub path_is : path_at position rows ≡ path

-- what is found at a path: the position of its queue, which has children or has none, or nothing
abbrev pub FindsQueue : {A : Type 0} → List ℕ → List Row → Found A → Type 0
FindsQueue path rows (Leaf position) = IsAt rows path position.items × (has_children rows path ≡ false)
FindsQueue path rows (Parent position) = IsAt rows path position.items × (has_children rows path ≡ true)
FindsQueue path rows Missing = find (λ q. bytes_eq q.path path) (queues_of rows) ≡ None

-- a tree of queues, with the position from which a search starts
pub record IsQueueTree (rows : List Row) (start : SmallVec ℕ) : Type 0 where
  pub rows_are : AreRows rows
  pub start_is : IsStart start
  pub waiting_are : AreWaiting rows
