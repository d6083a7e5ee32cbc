-- How the tree of a cluster follows whether an application waits.
use Rattle.std.specs.Prelude.{◌≡◌, ℕ, ◌<◌, ◌≤◌, Bool, true, false, List, length, map}
use Rattle.std.specs.List.{All}
use Rattle.cap_base.specs.Limits.{number_end}
use Rattle.cap_base.specs.Members.{IsIn, IsRising}
use Rattle.cap_model.specs.Asks.{Ask}
use Rattle.cap_model.specs.Flat.{App, ClusterNode, NodeTable}
use Rattle.cap_asks.specs.Apps.{HeldApps, is_waiting}
use Rattle.cap_asks.specs.Impossible.{Want, want_of}
use Rattle.cap_tree.specs.Rows.{Row, queues_of, served_row, waiting_row}
use Rattle.cap_tree.specs.Spot.{path_at}
use Rattle.cap_tree.specs.Waiting.{HasRoomAt, waiting_at, waits_in}
use Rattle.cap_commit.specs.ClusterState.{AreConsistent, AreOutOfReach, FollowsWaiting}
use Rattle.cap_commit.specs.declared.limits.Limits.{Limits}

-- a row once an application of the leaf of that path, which waited or did not, waits or does not
abbrev pub followed_row : ℕ → List ℕ → (waited waits : Bool) → Row → Row
followed_row n path false true r = waiting_row n path r
followed_row n path true false r = served_row n path r
followed_row n path true true r = r
followed_row n path false false r = r

-- an application of the leaf at a position may begin to wait
pub record MayBegin (n : ℕ) (position : List ℕ) (rows : List Row) : Type 0 where
  pub number : 1 ≤ n
  pub other : ¬ IsIn n (waiting_at position rows)
  pub room : HasRoomAt position rows
  pub few : waits_in rows < number_end

-- an application of the leaf at a position, which waited there or did not, waits there or does not
pub record IsSettled (n : ℕ) (position : List ℕ) (waits : Bool) (old new : List Row) : Type 0 where
  pub waited : Bool
  pub there : waited ≡ true → IsIn n (waiting_at position old)
  pub absent : waited ≡ false → ¬ IsIn n (waiting_at position old)
  pub rows : new ≡ map (followed_row n (path_at position old) waited waits) old

-- so does an application where it waits, and its asks are not all of those wants; the flag says whether it is left out though it waits
pub record IsFollowedAs (app : App) (position : List ℕ) (wants : List Want) (left : Bool) (old new : List Row) : Type 0 where
  pub waits : Bool
  pub settled : IsSettled app.number position waits old new
  pub some : waits ≡ true → is_waiting app ≡ true
  pub none : waits ≡ false → is_waiting app ≡ true → (ask : Ask) → IsIn ask app.asks → IsIn (want_of ask) wants
  pub all : left ≡ false → is_waiting app ≡ true → waits ≡ true

-- the rows and applications are those of a cluster
pub record IsInCluster (K : ℕ) (apps : HeldApps) (rows : List Row) : Type 0 where
  pub limits : Limits K
  pub nodes : NodeTable
  pub consistent : AreConsistent (record { rows = rows; limits = limits; apps = apps; nodes = nodes })

-- all applications are followed anew: a cluster stays one, and what one wants that waits and is not followed is among the impossible
pub record IsWoken (K : ℕ) (apps : HeldApps) (asleep : Bool) (old new : List Row) : Type 0 where
  pub consistent : (limits : Limits K) (nodes : NodeTable) → AreConsistent (record { rows = old; limits = limits; apps = apps; nodes = nodes }) → AreConsistent (record { rows = new; limits = limits; apps = apps; nodes = nodes })
  pub queues : queues_of new ≡ queues_of old
  pub waiting : (nodes : List ClusterNode) → AreOutOfReach nodes apps.impossible → FollowsWaiting asleep nodes apps.table.active new
