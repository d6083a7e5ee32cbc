-- What waits at the queues of a tree, applications by number, and which is served next.
use Rattle.std.specs.Prelude.{◌≡◌, ℕ, ◌<◌, false, length, List, [], Option, Some, None}
use Rattle.std.specs.Option.{option_map_or}
use Rattle.std.specs.Ordering.{nat_cmp, ordering_then, is_gt}
use Rattle.std.specs.declared.cmp.Ordering.{Ordering}
use Rattle.std.specs.declared.cmp.Ordering.TheVariants.{Less}
use Rattle.std.specs.Cmp.Lexicographic.{slice_cmp}
use Rattle.cap_base.specs.Levels.{level_cmp}
use Rattle.cap_base.specs.Members.{IsIn}
use Rattle.cap_tree.specs.Rows.{Row}
use Rattle.cap_tree.specs.Service.{levels_at}
use Rattle.cap_tree.specs.Queue.{active_of}
use Rattle.cap_tree.specs.Spot.{HoldsOfItem, first_of, item_at}

-- the numbers that wait at a position
abbrev pub waiting_at : List ℕ → List Row → List ℕ
waiting_at position rows = option_map_or (λ q. q.waiting) (item_at position rows) []

-- fewer wait at a position than applications are active there, of the queue's own
abbrev pub HasRoomAt : List ℕ → List Row → Type 0
HasRoomAt position rows = HoldsOfItem (λ q. length q.waiting < active_of q.users) (item_at position rows)

-- how many wait in all
abbrev pub waits_in : List Row → ℕ
waits_in rows = first_of (λ q. q.waits) rows

-- which of two that wait is served first: by the queues of their positions, then the lesser number
abbrev pub waiter_cmp : List Row → List ℕ → ℕ → List ℕ → ℕ → Ordering
waiter_cmp rows p n q m = ordering_then (slice_cmp level_cmp (levels_at p rows) (levels_at q rows)) (nat_cmp n m)

-- it comes after that one, if one is named
abbrev pub IsLaterWaiter : List Row → Option (List ℕ × ℕ) → List ℕ → ℕ → Type 0
IsLaterWaiter rows None q m = Unit {0}
IsLaterWaiter rows (Some a) q m = waiter_cmp rows (a.0) (a.1) q m ≡ Less

-- the one that comes next after that one, the first where none is named; and that none does
pub record IsNextWaiter (rows : List Row) (after : Option (List ℕ × ℕ)) (number : ℕ) : Type 0 where
  pub position : List ℕ
  pub there : IsIn number (waiting_at position rows)
  pub later : IsLaterWaiter rows after position number
  pub first : (q : List ℕ) (m : ℕ) → IsIn m (waiting_at q rows) → IsLaterWaiter rows after q m → is_gt (waiter_cmp rows position number q m) ≡ false

abbrev pub HasNoWaiter : List Row → Option (List ℕ × ℕ) → Type 0
HasNoWaiter rows after = (q : List ℕ) (m : ℕ) → IsIn m (waiting_at q rows) → ¬ IsLaterWaiter rows after q m
