-- Counts at each level of a tree, of what is at an item and under it.
use Rattle.std.specs.Prelude.{◌≡◌, ℕ, ◌+◌, ◌<◌, List, [], length, slice_index_or, sum_by}
use Rattle.cap_tree.specs.Numbers.{AreNumbers}
use Rattle.cap_tree.specs.Queue.{Queue}
use Rattle.cap_tree.specs.Spot.{Spot, first_of, spots}

-- the spots of some tree, whose items are good, and each of which stores what is its own and what those under it store
pub data AreCounted {T : Type 0} (name : T → List ℕ) (good : T → Type 0) (stored own : T → ℕ) : List (Spot T) → Type 0 where
  counted : (item : T) (kids : List (List (Spot T))) → good item → stored item ≡ own item + sum_by (first_of stored) kids →
      ((i : ℕ) → i < length kids → AreCounted name good stored own (slice_index_or kids i [])) → AreCounted name good stored own (spots name item kids)

-- the rows of a tree in which each queue has the numbers that wait at it, in order, and counts those under it too
abbrev pub AreWaiting : List (Spot Queue) → Type 0
AreWaiting rows = AreCounted (λ q. q.name) (λ q. AreNumbers q.waiting) (λ q. q.waits) (λ q. length q.waiting) rows
