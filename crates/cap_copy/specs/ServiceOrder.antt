-- The order in which what waits at queues is served.
use Rattle.std.specs.Prelude.{◌≡◌, ℕ, ◌<◌, false, List, [], length, Option, Some, None}
use Rattle.std.specs.List.{slice_get}
use Rattle.std.specs.Option.{option_map_or}
use Rattle.std.specs.Ordering.{nat_cmp, then_cmp, on, is_gt}
use Rattle.std.specs.declared.cmp.Ordering.{Ordering}
use Rattle.std.specs.declared.cmp.Ordering.TheVariants.{Less}
use Rattle.std.specs.Cmp.Lexicographic.{slice_cmp}
use Rattle.cap_base.specs.Levels.{level_cmp}
use Rattle.cap_tree.specs.Rows.{Row}
use Rattle.cap_tree.specs.Service.{levels_at}

-- the position of that index, the root's where there is none
abbrev pub position_nth : ℕ → List (List ℕ) → List ℕ
position_nth i positions = option_map_or (λ position. position) (slice_get positions i) []

-- which of two indexes is served first: by the queues of their positions, then the earlier index
abbrev pub waiting_cmp : List Row → List (List ℕ) → ℕ → ℕ → Ordering
waiting_cmp rows positions = then_cmp (on (λ i. levels_at (position_nth i positions) rows) (slice_cmp level_cmp)) nat_cmp

-- it comes after that one, if one is named
abbrev pub IsLater : List Row → List (List ℕ) → Option ℕ → ℕ → Type 0
IsLater rows waiting None i = Unit {0}
IsLater rows waiting (Some a) i = waiting_cmp rows waiting a i ≡ Less

-- the first that comes after that one
pub record IsFirstLater (rows : List Row) (waiting : List (List ℕ)) (after : Option ℕ) (i : ℕ) : Type 0 where
  pub there : i < length waiting
  pub later : IsLater rows waiting after i
  pub first : (j : ℕ) → j < length waiting → IsLater rows waiting after j → is_gt (waiting_cmp rows waiting i j) ≡ false

-- the one that comes next after that one, the first where none is named; and that none does
abbrev pub IsNextServed : List Row → List (List ℕ) → Option ℕ → Option ℕ → Type 0
IsNextServed rows waiting after None = (j : ℕ) → j < length waiting → ¬ IsLater rows waiting after j
IsNextServed rows waiting after (Some i) = IsFirstLater rows waiting after i
