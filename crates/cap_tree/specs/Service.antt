-- The order in which queues are served.
use Rattle.std.specs.Prelude.{◌≡◌, ℕ, ◌<◌, ◌≤◌, Bool, true, false, List, [], ◌∷◌, ◌++◌, Option, Some, None, length, map, drop, find, bytes_eq, option_map, slice_index_or}
use Rattle.std.specs.List.{remove}
use Rattle.std.specs.Option.{option_cmp}
use Rattle.std.proofs.lemmas.Map.Entries.{option_filter}
use Rattle.std.specs.Ordering.{is_gt, is_lt}
use Rattle.std.specs.declared.cmp.Ordering.{Ordering}
use Rattle.std.specs.declared.cmp.Ordering.TheVariants.{Less, Equal}
use Rattle.cap_vector.specs.Fullness.{shares}
use Rattle.cap_base.specs.Levels.{Level, level_cmp}
use Rattle.cap_base.specs.Paths.{name_of}
use Rattle.cap_base.specs.Members.{IsIn}
use Rattle.cap_tree.specs.Spot.{Spot, HoldsOfItem, along, item_at, path_at, spots}
use Rattle.cap_tree.specs.Queue.{Queue}
use Rattle.cap_tree.specs.Rows.{Row, rows_to}

-- what decides between a queue and its siblings, by its row
abbrev pub level_of_row : Row → Level
level_of_row r = record { fullness = shares r.item.used r.item.guaranteed; name = name_of r.path }

-- of each queue on the way from below the root to a position
abbrev pub levels_at : List ℕ → List Row → List Level
levels_at position rows = map level_of_row (drop 1 (rows_to (path_at position rows) rows))

-- the same by what a queue holds, where it has its own name
abbrev pub level_of_queue : Queue → Level
level_of_queue q = record { fullness = shares q.used q.guaranteed; name = q.name }

abbrev pub queue_cmp : Queue → Queue → Ordering
queue_cmp p q = level_cmp (level_of_queue p) (level_of_queue q)

-- the row at a position, if there is one, and its level
abbrev pub row_at : List ℕ → List Row → Option Row
row_at position rows = find (λ r. bytes_eq r.position position) rows

abbrev pub level_at : List ℕ → List Row → Option Level
level_at position rows = option_map level_of_row (row_at position rows)

module _ {T : Type 0} where
  -- the items on the way to a position, from level 0 on, and those below level 0
  abbrev pub items_along : List ℕ → List (Spot T) → List T
  items_along position ss = map (λ s. s.item) (along position ss)

  -- no path is at two positions
  abbrev pub HasPathsOnce : List (Spot T) → Type 0
  HasPathsOnce ss = (s t : Spot T) → IsIn s ss → IsIn t ss → s.path ≡ t.path → s.position ≡ t.position

  -- the item is the one above all others
  pub record IsTop (name : T → List ℕ) (item : T) (ss : List (Spot T)) : Type 0 where
    pub kids : List (List (Spot T))
    pub is : ss ≡ spots name item kids

  -- the item of each child of a position, by the child's index
  abbrev pub children_at : List ℕ → List (Spot T) → ℕ → Option T
  children_at position ss i = item_at (position ++ i ∷ []) ss

  -- the item of each of these children, by its index
  abbrev pub kid_items : List (List (Spot T)) → ℕ → Option T
  kid_items kids i = item_at [] (slice_index_or kids i [])

  -- the child with that index, none where none is named
  abbrev pub child_item : List (Spot T) → Option ℕ → Option T
  child_item ss None = None
  child_item ss (Some i) = item_at (i ∷ []) ss

  -- the children that pass a test
  abbrev pub that_pass : (T → Bool) → (ℕ → Option T) → ℕ → Option T
  that_pass test child i = option_filter test (child i)

  -- whether an item comes after that one, or before it, if there is one
  abbrev pub is_after : (T → T → Ordering) → T → Option T → Bool
  is_after order item None = true
  is_after order item (Some last) = is_lt (order last item)

  abbrev pub is_before : (T → T → Ordering) → T → Option T → Bool
  is_before order item None = true
  is_before order item (Some next) = is_lt (order item next)

  -- children in an order
  module _ (order : T → T → Ordering) (child : ℕ → Option T) where
    abbrev pub IsThere : ℕ → Type 0
    IsThere i = HoldsOfItem (λ _. Unit {0}) (child i)

    abbrev pub child_cmp : ℕ → ℕ → Ordering
    child_cmp i j = option_cmp order (child i) (child j)

    -- it comes after that one, if one is named
    abbrev pub ComesAfter : Option ℕ → ℕ → Type 0
    ComesAfter None i = Unit {0}
    ComesAfter (Some last) i = child_cmp last i ≡ Less

    -- the first child that comes after that one, and that there is none
    pub record IsFirstAfter (after : Option ℕ) (i : ℕ) : Type 0 where
      pub there : IsThere i
      pub later : ComesAfter after i
      pub first : (j : ℕ) → IsThere j → ComesAfter after j → is_gt (child_cmp i j) ≡ false

    abbrev pub HasNoneAfter : Option ℕ → Type 0
    HasNoneAfter after = (j : ℕ) → IsThere j → ¬ ComesAfter after j

    -- no two children are alike
    abbrev pub AreApart : Type 0
    AreApart = (i j : ℕ) → IsThere i → IsThere j → child_cmp i j ≡ Equal → i ≡ j

    -- indexes of children, in the order
    pub record AreSorted (indexes : List ℕ) : Type 0 where
      pub there : (a : ℕ) → a < length indexes → IsThere (slice_index_or indexes a 0)
      pub rises : (a b : ℕ) → a < b → b < length indexes → child_cmp (slice_index_or indexes a 0) (slice_index_or indexes b 0) ≡ Less

    -- those of the first so many children, each of them
    pub record IsOrderOf (count : ℕ) (indexes : List ℕ) : Type 0 where
      pub sorted : AreSorted indexes
      pub early : (a : ℕ) → a < length indexes → slice_index_or indexes a 0 < count
      pub all : (j : ℕ) → j < count → IsThere j → (a : ℕ) × (a < length indexes) × (slice_index_or indexes a 0 ≡ j)

    -- those of the first so many children but one, each of them
    pub record IsOrderOfOthers (count index : ℕ) (indexes : List ℕ) : Type 0 where
      pub sorted : AreSorted indexes
      pub early : (a : ℕ) → a < length indexes → slice_index_or indexes a 0 < count
      pub none : (a : ℕ) → a < length indexes → ¬ (slice_index_or indexes a 0 ≡ index)
      pub all : (j : ℕ) → j < count → ¬ (j ≡ index) → IsThere j → (a : ℕ) × (a < length indexes) × (slice_index_or indexes a 0 ≡ j)

    -- the children from a place on come after an item, and those before do not
    pub record IsPlaceAfter (item : T) (indexes : List ℕ) (place : ℕ) : Type 0 where
      pub within : place ≤ length indexes
      pub before : (a : ℕ) → a < place → ¬ (option_cmp order (Some item) (child (slice_index_or indexes a 0)) ≡ Less)
      pub after : (a : ℕ) → place ≤ a → a < length indexes → option_cmp order (Some item) (child (slice_index_or indexes a 0)) ≡ Less

  -- the indexes are in order of the first so many children, as they were before the one of this index was changed
  pub record HasOrderOfOthers (order : T → T → Ordering) (child : ℕ → Option T) (count index : ℕ) (indexes : List ℕ) : Type 0 where
    pub before : ℕ → Option T
    pub was : IsOrderOf order before count indexes
    pub same : (j : ℕ) → ¬ (j ≡ index) → before j ≡ child j

-- an index was taken out of a list where it stood, or it stood nowhere
pub data IsTakenOut (index : ℕ) (old new : List ℕ) : Type 0 where
  was_at : (place : ℕ) → place < length old → slice_index_or old place 0 ≡ index → new ≡ remove old place → IsTakenOut index old new
  was_nowhere : ((a : ℕ) → a < length old → ¬ (slice_index_or old a 0 ≡ index)) → new ≡ old → IsTakenOut index old new

-- the level of each child of a position, by the child's index
abbrev pub child_levels : List ℕ → List Row → ℕ → Option Level
child_levels position rows i = level_at (position ++ i ∷ []) rows

-- the child of a position that follows that one in the order of fullness and name, the first where none is named; and that none does
abbrev pub IsNextChild : List Row → List ℕ → Option ℕ → ℕ → Type 0
IsNextChild rows position after i = IsFirstAfter level_cmp (child_levels position rows) after i

abbrev pub HasNoChildAfter : List Row → List ℕ → Option ℕ → Type 0
HasNoChildAfter rows position after = HasNoneAfter level_cmp (child_levels position rows) after
