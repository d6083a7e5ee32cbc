-- What waits in a tree, by marks of its items, and what of it is served first or next.
use Rattle.std.specs.Prelude.{◌≡◌, ◌⊎◌, ℕ, ◌≤◌, Bool, true, List, ◌∷◌, ◌++◌, Option, Some, None, drop}
use Rattle.std.specs.Option.{option_map_or}
use Rattle.std.specs.Ordering.{on}
use Rattle.std.specs.declared.cmp.Ordering.{Ordering}
use Rattle.std.specs.declared.cmp.Ordering.TheVariants.{Less}
use Rattle.std.specs.Cmp.Lexicographic.{slice_cmp}
use Rattle.cap_base.specs.Cascade.{holds_of}
use Rattle.cap_tree.specs.Service.{items_along}
use Rattle.cap_tree.specs.Spot.{Spot, IsPosition, item_at}

-- the mark of the item at a position, 0 where it has none
abbrev pub mark_at : {T : Type 0} → (T → ℕ) → List ℕ → List (Spot T) → ℕ
mark_at mark position ss = option_map_or mark (item_at position ss) 0

-- an item waits exactly where it or one below it has a mark
pub record AreMarked {T : Type 0} (mark : T → ℕ) (waits : T → Bool) (ss : List (Spot T)) : Type 0 where
  pub above : (p q : List ℕ) → IsPosition ss p → 1 ≤ mark_at mark (p ++ q) ss → holds_of waits (item_at p ss) ≡ true
  pub below : (p : List ℕ) → holds_of waits (item_at p ss) ≡ true → (q : List ℕ) × (1 ≤ mark_at mark (p ++ q) ss)

-- which of two positions is served first, by the items on the ways to them
abbrev pub place_cmp : {T : Type 0} → (T → T → Ordering) → List (Spot T) → List ℕ → List ℕ → Ordering
place_cmp order ss = on (λ p. drop 1 (items_along p ss)) (slice_cmp order)

-- a position is the second one, or is served before it
abbrev pub IsUpTo : {T : Type 0} → (T → T → Ordering) → List (Spot T) → List ℕ → List ℕ → Type 0
IsUpTo order ss p q = (p ≡ q) ⊎ (place_cmp order ss p q ≡ Less)

-- the mark of the position that is served first of those that have one
pub record IsFirstMark {T : Type 0} (order : T → T → Ordering) (mark : T → ℕ) (ss : List (Spot T)) (n : ℕ) : Type 0 where
  pub position : List ℕ
  pub is : mark_at mark position ss ≡ n
  pub some : 1 ≤ n
  pub first : (q : List ℕ) → 1 ≤ mark_at mark q ss → IsUpTo order ss position q

-- of those that are served after a position; and that none is
pub record IsMarkAfter {T : Type 0} (order : T → T → Ordering) (mark : T → ℕ) (ss : List (Spot T)) (after : List ℕ) (n : ℕ) : Type 0 where
  pub position : List ℕ
  pub is : mark_at mark position ss ≡ n
  pub some : 1 ≤ n
  pub later : place_cmp order ss after position ≡ Less
  pub first : (q : List ℕ) → 1 ≤ mark_at mark q ss → IsUpTo order ss q after ⊎ IsUpTo order ss position q

abbrev pub HasNoMarkAfter : {T : Type 0} → (T → T → Ordering) → (T → ℕ) → List (Spot T) → List ℕ → Type 0
HasNoMarkAfter order mark ss after = (q : List ℕ) → 1 ≤ mark_at mark q ss → IsUpTo order ss q after

-- the child is that one or all in it is served before all in that one, if one is named; and all in it is served after all in that one
abbrev pub IsUpToChild : {T : Type 0} → (T → T → Ordering) → List (Spot T) → Option ℕ → ℕ → Type 0
IsUpToChild order ss None i = ⊥
IsUpToChild order ss (Some last) i = (i ≡ last) ⊎ ((p q : List ℕ) → place_cmp order ss (i ∷ p) (last ∷ q) ≡ Less)

abbrev pub IsAfterChild : {T : Type 0} → (T → T → Ordering) → List (Spot T) → Option ℕ → ℕ → Type 0
IsAfterChild order ss None i = Unit {0}
IsAfterChild order ss (Some last) i = (p q : List ℕ) → place_cmp order ss (last ∷ p) (i ∷ q) ≡ Less

-- the mark that is served first of those in the children after that one; and that these have none
pub record IsMarkBelow {T : Type 0} (order : T → T → Ordering) (mark : T → ℕ) (ss : List (Spot T)) (after : Option ℕ) (n : ℕ) : Type 0 where
  pub child : ℕ
  pub position : List ℕ
  pub is : mark_at mark (child ∷ position) ss ≡ n
  pub some : 1 ≤ n
  pub later : IsAfterChild order ss after child
  pub first : (j : ℕ) (q : List ℕ) → 1 ≤ mark_at mark (j ∷ q) ss → IsUpToChild order ss after j ⊎ IsUpTo order ss (child ∷ position) (j ∷ q)

abbrev pub HasNoMarkBelow : {T : Type 0} → (T → T → Ordering) → (T → ℕ) → List (Spot T) → Option ℕ → Type 0
HasNoMarkBelow order mark ss after = (j : ℕ) (q : List ℕ) → 1 ≤ mark_at mark (j ∷ q) ss → IsUpToChild order ss after j
