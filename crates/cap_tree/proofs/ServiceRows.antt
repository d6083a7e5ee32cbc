-- The order of service, by the rows of a tree.
use Rattle.cap_tree.proofs.Prelude.{◌≡◌, ℕ, Bool, true, false, cond, List, [], ◌∷◌, ◌++◌, Option, Some, None, refl, sym, ◌∙◌, ap, map, filter, subst, drop, inl, inr, MatchOption, bytes_eq, option_map, option_cmp, on, ordering_then, is_gt, Ordering, slice_cmp, drop-map, bytes_eq-Decides, shares, Level, level_cmp, IsIn, each_of, along, item_at, HoldsOfItem, IsPosition, Queue, Row, AreRows, HasLastName, PositionsArePaths, HasPathsOnce, HasNoneAfter, IsFirstAfter, IsThere, ComesAfter, child_cmp, children_at, child_levels, items_along, level_at, level_of_queue, level_of_row, levels_at, queue_cmp, row_at}
use Rattle.cap_tree.proofs.RowPaths.{along_rows, same_row}

pub rows_once : (rows : List Row) → PositionsArePaths rows → HasPathsOnce rows
rows_once rows paths s t m n e = (bytes_eq-Decides s.position t.position).0 (same_row rows paths s t m n ∙ (bytes_eq-Decides s.path t.path).1 e)

-- a queue with its own name has the level of its row

level_is : (r : Row) → HasLastName r → level_of_row r ≡ level_of_queue r.item
level_is r h = λ i. record { fullness = shares r.item.used r.item.guaranteed; name = sym h i }

levels_of : (test : Row → Bool) (rows : List Row) → ((r : Row) → IsIn r rows → HasLastName r) → map level_of_row (filter test rows) ≡ map level_of_queue (map (λ r. r.item) (filter test rows))
levels_of test [] h = refl
levels_of test (r ∷ rows) h = by (test r) (levels_of test rows (λ s m. h s (inr m)))
  where
    by : (b : Bool) → map level_of_row (filter test rows) ≡ map level_of_queue (map (λ s. s.item) (filter test rows)) →
        map level_of_row (cond b (r ∷ filter test rows) (filter test rows)) ≡ map level_of_queue (map (λ s. s.item) (cond b (r ∷ filter test rows) (filter test rows)))
    by true e = λ i. level_is r (h r (inl refl)) i ∷ e i
    by false e = e

levels_are : (position : List ℕ) (rows : List Row) → AreRows rows → IsPosition rows position → levels_at position rows ≡ map level_of_queue (drop 1 (items_along position rows))
levels_are position rows a h =
    ap (λ ss. map level_of_row (drop 1 ss)) (sym (along_rows position rows a.paths h))
    ∙ sym (drop-map level_of_row 1 (along position rows))
    ∙ ap (drop 1) (levels_of _ rows (each_of HasLastName rows a.names))
    ∙ drop-map level_of_queue 1 (items_along position rows)

pub cmp_mapped : {A B : Type 0} (f : A → B) (cmp : B → B → Ordering) (xs ys : List A) → slice_cmp (on f cmp) xs ys ≡ slice_cmp cmp (map f xs) (map f ys)
cmp_mapped f cmp [] [] = refl
cmp_mapped f cmp [] (y ∷ ys) = refl
cmp_mapped f cmp (x ∷ xs) [] = refl
cmp_mapped f cmp (x ∷ xs) (y ∷ ys) = ap (ordering_then (cmp (f x) (f y))) (cmp_mapped f cmp xs ys)

pub served_rows : (a b : List ℕ) (rows : List Row) → AreRows rows → IsPosition rows a → IsPosition rows b →
    slice_cmp queue_cmp (drop 1 (items_along a rows)) (drop 1 (items_along b rows)) ≡ slice_cmp level_cmp (levels_at a rows) (levels_at b rows)
served_rows a b rows are h k = cmp_mapped level_of_queue level_cmp (drop 1 (items_along a rows)) (drop 1 (items_along b rows)) ∙ (λ i. slice_cmp level_cmp (sym (levels_are a rows are h) i) (sym (levels_are b rows are k) i))

-- the children of a position, by their levels

level_there : (position : List ℕ) (rows : List Row) → ((r : Row) → IsIn r rows → HasLastName r) → level_at position rows ≡ option_map level_of_queue (item_at position rows)
level_there position [] h = refl
level_there position (r ∷ rows) h = by (bytes_eq r.position position) (level_there position rows (λ s m. h s (inr m)))
  where
    by : (b : Bool) → level_at position rows ≡ option_map level_of_queue (item_at position rows) →
        option_map level_of_row (cond b (Some r) (row_at position rows)) ≡ option_map level_of_queue (cond b (Some r.item) (item_at position rows))
    by true e = ap Some (level_is r (h r (inl refl)))
    by false e = e

module _ (child : ℕ → Option Queue) (after : Option ℕ) where
  abbrev levels : ℕ → Option Level
  levels i = option_map level_of_queue (child i)

  there_as_queue : (i : ℕ) → IsThere level_cmp levels i → IsThere queue_cmp child i
  there_as_queue i h = by (child i) h
    where
      by : (o : Option Queue) → HoldsOfItem (λ _. Unit {0}) (option_map level_of_queue o) → HoldsOfItem (λ _. Unit {0}) o
      by None h = h
      by (Some q) h = h

  there_as_level : (i : ℕ) → IsThere queue_cmp child i → IsThere level_cmp levels i
  there_as_level i h = by (child i) h
    where
      by : (o : Option Queue) → HoldsOfItem (λ _. Unit {0}) o → HoldsOfItem (λ _. Unit {0}) (option_map level_of_queue o)
      by None h = h
      by (Some q) h = h

  same_cmp : (i j : ℕ) → child_cmp level_cmp levels i j ≡ child_cmp queue_cmp child i j
  same_cmp i j = by (child i) (child j)
    where
      by : (o u : Option Queue) → option_cmp level_cmp (option_map level_of_queue o) (option_map level_of_queue u) ≡ option_cmp queue_cmp o u
      by None None = refl
      by None (Some q) = refl
      by (Some p) None = refl
      by (Some p) (Some q) = refl

  after_as_queue : (a : Option ℕ) (i : ℕ) → ComesAfter level_cmp levels a i → ComesAfter queue_cmp child a i
  after_as_queue None i h = tt
  after_as_queue (Some last) i h = sym (same_cmp last i) ∙ h

  after_as_level : (a : Option ℕ) (i : ℕ) → ComesAfter queue_cmp child a i → ComesAfter level_cmp levels a i
  after_as_level None i h = tt
  after_as_level (Some last) i h = same_cmp last i ∙ h

  next_levels : (next : Option ℕ) → MatchOption next (HasNoneAfter queue_cmp child after) (IsFirstAfter queue_cmp child after) → MatchOption next (HasNoneAfter level_cmp levels after) (IsFirstAfter level_cmp levels after)
  next_levels None h = λ j t c. h j (there_as_queue j t) (after_as_queue after j c)
  next_levels (Some n) h = record {
    there = there_as_level n h.there;
    later = after_as_level after n h.later;
    first = λ j t c. ap is_gt (same_cmp n j) ∙ h.first j (there_as_queue j t) (after_as_queue after j c);
  }

pub next_rows : (position : List ℕ) (rows : List Row) (after next : Option ℕ) → AreRows rows → MatchOption next (HasNoneAfter queue_cmp (children_at position rows) after) (IsFirstAfter queue_cmp (children_at position rows) after) →
    MatchOption next (HasNoneAfter level_cmp (child_levels position rows) after) (IsFirstAfter level_cmp (child_levels position rows) after)
next_rows position rows after next a h =
    let same : (λ i. option_map level_of_queue (children_at position rows i)) ≡ child_levels position rows = λ j i. sym (level_there (position ++ i ∷ []) rows (each_of HasLastName rows a.names)) j in
    subst (λ ls. MatchOption next (HasNoneAfter level_cmp ls after) (IsFirstAfter level_cmp ls after)) same (next_levels (children_at position rows) after next h)
