-- What holds at each level of a tree.
use Rattle.std.specs.Prelude.{◌≡◌, ℕ, ◌+◌, ◌<◌, ◌≤◌, List, [], length, slice_index_or, sum_by}
use Rattle.std.specs.List.{All}
use Rattle.cap_tree.specs.Measure.{Measure}
use Rattle.cap_tree.specs.Spot.{Spot, first_of, spots}

-- the spots of some tree, of which each child's are those of a tree too
pub data AreSpots {T : Type 0} (name : T → List ℕ) : List (Spot T) → Type 0 where
  of_tree : (item : T) (kids : List (List (Spot T))) → ((i : ℕ) → i < length kids → AreSpots name (slice_index_or kids i [])) → AreSpots name (spots name item kids)

-- the counts are those of the item itself and of the children together; each child is a tree, and their indexes are short
pub record IsBranch {T : Type 0} (name : T → List ℕ) (stored own : T → Measure → ℕ) (item : T) (kids : List (List (Spot T))) : Type 0 where
  pub sums : (m : Measure) → stored item m ≡ own item m + sum_by (first_of (λ x. stored x m)) kids
  pub trees : All (AreSpots name) kids
  pub few : length kids ≤ 4294967295

-- what the first spot counts
abbrev pub root_count : {T : Type 0} → (T → Measure → ℕ) → List (Spot T) → Measure → ℕ
root_count stored ss m = first_of (λ x. stored x m) ss
