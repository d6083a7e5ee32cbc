-- What is found at a path.
use Rattle.std.specs.Prelude.{◌≡◌, ℕ, [], Bool, true, false, List, Option, Some, None}
use Rattle.smallvec.specs.SmallVec.{SmallVec}
use Rattle.cap_tree.specs.Spot.{Spot, position_of_path, has_below}
use Rattle.cap_tree.specs.declared.found.Kind.{Kind}
use Rattle.cap_tree.specs.declared.found.Kind.TheVariants.{Leaf, Parent}

-- a position that is empty, with all its room
pub record IsStart (position : SmallVec ℕ) : Type 0 where
  pub empty : position.items ≡ []
  pub room : position.capacity ≡ 16

abbrev pub is_parent : Kind → Bool
is_parent Leaf = false
is_parent Parent = true

-- the position is that of the first spot with the path, and there are others below it exactly where it is a parent
pub record IsFoundAt {T : Type 0} (path : List ℕ) (ss : List (Spot T)) (position : SmallVec ℕ) (kind : Kind) : Type 0 where
  pub is : position_of_path path ss ≡ Some position.items
  pub room : position.capacity ≡ 16
  pub below : is_parent kind ≡ has_below position.items ss

-- no spot has the path
pub record IsMissing {T : Type 0} (path : List ℕ) (ss : List (Spot T)) (position : SmallVec ℕ) : Type 0 where
  pub is : position_of_path path ss ≡ None
  pub start : IsStart position

abbrev pub IsFound : {T : Type 0} → List ℕ → List (Spot T) → SmallVec ℕ → Option Kind → Type 0
IsFound path ss position (Some kind) = IsFoundAt path ss position kind
IsFound path ss position None = IsMissing path ss position
