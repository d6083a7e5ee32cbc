-- What is served first or next in a tree, from what is so in its children.
use Rattle.cap_tree.proofs.Prelude.{◌≡◌, ℕ, ◌<◌, ◌≤◌, Bool, true, false, List, [], ◌∷◌, ◌++◌, length, get_or, Option, Some, None, refl, sym, ◌∙◌, ap, subst, arith, map, drop, inl, inr, ◌⊎◌, IfSome, MatchOption, All, option_cmp, option_map_or, ordering_reverse, ordering_then, is_gt, Ordering, Less, Equal, Greater, IsTotalOrder, slice_cmp, tied_itself, get_or_default, holds_of, AreSpots, of_tree, HasNoneAfter, HasPathsOnce, IsFirstAfter, IsThere, IsTop, ComesAfter, child_cmp, children_at, items_along, that_pass, Spot, HoldsOfItem, IsPosition, along, below, item_at, spots, AreMarked, HasNoMarkAfter, HasNoMarkBelow, IsAfterChild, IsFirstMark, IsMarkAfter, IsMarkBelow, IsUpTo, IsUpToChild, mark_at, place_cmp}
use Rattle.cap_tree.proofs.Service.{item_in_child, items_at_root, items_in_child, kids_apart, once_in_child, passing_there, top_of_child}
use Rattle.cap_tree.proofs.Spots.{holds-within}

-- where there is a mark, there is an item
pub mark_there : {T : Type 0} (mark : T → ℕ) (p : List ℕ) (ss : List (Spot T)) → 1 ≤ mark_at mark p ss → IsPosition ss p
mark_there {T} mark p ss = by (item_at p ss)
  where
    by : (o : Option T) → 1 ≤ option_map_or mark o 0 → HoldsOfItem (λ _. Unit {0}) o
    by None h = absurd (omega (arith, h))
    by (Some x) h = tt

-- an item of a tree with what is below it
pub record HasTop {T : Type 0} (name : T → List ℕ) (ss : List (Spot T)) : Type 0 where
  pub item : T
  pub top : IsTop name item ss

has_top : {T : Type 0} (name : T → List ℕ) {ss : List (Spot T)} → AreSpots name ss → HasTop name ss
has_top name (of_tree item kids each) = record { item = item; top = record { kids = kids; is = refl } }

-- places in the children of an item

module _ {T : Type 0} (order : T → T → Ordering) (total : IsTotalOrder order) (name : T → List ℕ) (names : (x y : T) → order x y ≡ Equal → name x ≡ name y) (item : T) (kids : List (List (Spot T))) (value : List (Spot T))
    (e : spots name item kids ≡ value) (trees : All (AreSpots name) kids) (once : HasPathsOnce value) where
  abbrev kid_at : ℕ → List (Spot T)
  kid_at i = get_or kids i []

  kid_is : (i : ℕ) → i < length kids → kid_at i ≡ get_or kids i (kid_at i)
  kid_is i lt = get_or_default kids i [] (kid_at i) lt

  top_at : (i : ℕ) → i < length kids → HasTop name (kid_at i)
  top_at i lt = has_top name (trees i [] lt)

  pub item_in : (i : ℕ) → i < length kids → (p : List ℕ) → item_at (i ∷ p) value ≡ item_at p (kid_at i)
  item_in i lt p = item_in_child name item kids value e i (kid_at i) lt (kid_is i lt) p

  top_item : (i : ℕ) (lt : i < length kids) → children_at [] value i ≡ Some (top_at i lt).item
  top_item i lt = top_of_child name item kids value e i (kid_at i) lt (kid_is i lt) (top_at i lt).item (top_at i lt).top

  top_along : (kid : List (Spot T)) (t : HasTop name kid) (p : List ℕ) → items_along p kid ≡ t.item ∷ drop 1 (items_along p kid)
  top_along kid t p = let whole : items_along p kid ≡ t.item ∷ map (λ s. s.item) (along p (below (name t.item) 0 t.top.kids)) = ap (items_along p) t.top.is in whole ∙ ap (λ xs. t.item ∷ drop 1 xs) (sym whole)

  below_along : (i : ℕ) (lt : i < length kids) (p : List ℕ) → drop 1 (items_along (i ∷ p) value) ≡ (top_at i lt).item ∷ drop 1 (items_along p (kid_at i))
  below_along i lt p = ap (drop 1) (items_in_child name item kids value e i (kid_at i) lt (kid_is i lt) p) ∙ top_along (kid_at i) (top_at i lt) p

  root_along : drop 1 (items_along [] value) ≡ []
  root_along = ap (drop 1) (items_at_root name item kids value e)

  pub root_first : (i : ℕ) → i < length kids → (p : List ℕ) → place_cmp order value [] (i ∷ p) ≡ Less
  root_first i lt p = λ k. slice_cmp order (root_along k) (below_along i lt p k)

  root_last : (i : ℕ) → i < length kids → (p : List ℕ) → place_cmp order value (i ∷ p) [] ≡ Greater
  root_last i lt p = λ k. slice_cmp order (below_along i lt p k) (root_along k)

  pub in_one : (i : ℕ) → i < length kids → (p q : List ℕ) → place_cmp order value (i ∷ p) (i ∷ q) ≡ place_cmp order (kid_at i) p q
  in_one i lt p q =
      (λ k. slice_cmp order (below_along i lt p k) (below_along i lt q k))
      ∙ ap (λ o. ordering_then o (place_cmp order (kid_at i) p q)) (tied_itself total (top_at i lt).item)

  cmp_tops : (i j : ℕ) (li : i < length kids) (lj : j < length kids) → child_cmp order (children_at [] value) i j ≡ order (top_at i li).item (top_at j lj).item
  cmp_tops i j li lj = λ k. option_cmp order (top_item i li k) (top_item j lj k)

  first_decides : (o r : Ordering) → o ≡ Less → ordering_then o r ≡ Less
  first_decides Less r h = refl
  first_decides Equal r h = absurd (cc h)
  first_decides Greater r h = absurd (cc h)

  pub in_sooner : (i j : ℕ) → i < length kids → j < length kids → child_cmp order (children_at [] value) i j ≡ Less → (p q : List ℕ) → place_cmp order value (i ∷ p) (j ∷ q) ≡ Less
  in_sooner i j li lj less p q =
      (λ k. slice_cmp order (below_along i li p k) (below_along j lj q k))
      ∙ first_decides (order (top_at i li).item (top_at j lj).item) (slice_cmp order (drop 1 (items_along p (kid_at i))) (drop 1 (items_along q (kid_at j)))) (sym (cmp_tops i j li lj) ∙ less)

  -- of two children one is served before the other
  abbrev pub AreTwo : ℕ → ℕ → Type 0
  AreTwo i j = (i ≡ j) ⊎ ((child_cmp order (children_at [] value) i j ≡ Less) ⊎ (child_cmp order (children_at [] value) j i ≡ Less))

  pub two : (i j : ℕ) → i < length kids → j < length kids → AreTwo i j
  two i j li lj = by (order x y) refl
    where
      x : T
      x = (top_at i li).item

      y : T
      y = (top_at j lj).item

      by : (o : Ordering) → order x y ≡ o → AreTwo i j
      by Less h = inr (inl (cmp_tops i j li lj ∙ h))
      by Equal h = inl (kids_apart name item kids value e order total names once i j (kid_at i) (kid_at j) x y li (kid_is i li) (top_at i li).top lj (kid_is j lj) (top_at j lj).top h)
      by Greater h = inr (inr (cmp_tops j i lj li ∙ total.antisymm y x ∙ ap ordering_reverse h))

  pub up_to_in : (i : ℕ) → i < length kids → (p q : List ℕ) → IsUpTo order (kid_at i) p q → IsUpTo order value (i ∷ p) (i ∷ q)
  up_to_in i lt p q (inl same) = inl (ap (λ r. i ∷ r) same)
  up_to_in i lt p q (inr less) = inr (in_one i lt p q ∙ less)

  pub within : (j : ℕ) (q : List ℕ) → IsPosition value (j ∷ q) → j < length kids
  within j q there = holds-within (λ _. Unit {0}) name item j q kids (subst (λ v. IsPosition v (j ∷ q)) (sym e) there)

  -- the marks of what is in the children

  module _ (mark : T → ℕ) (waits : T → Bool) (marked : AreMarked mark waits value) where
    abbrev counted : ℕ → Option T
    counted = that_pass waits (children_at [] value)

    marked_within : (j : ℕ) (q : List ℕ) → 1 ≤ mark_at mark (j ∷ q) value → j < length kids
    marked_within j q some = within j q (mark_there mark (j ∷ q) value some)

    mark_in : (i : ℕ) → i < length kids → (p : List ℕ) → mark_at mark (i ∷ p) value ≡ mark_at mark p (kid_at i)
    mark_in i lt p = ap (λ o. option_map_or mark o 0) (item_in i lt p)

    in_kid : (i : ℕ) (lt : i < length kids) (p : List ℕ) → 1 ≤ mark_at mark (i ∷ p) value → 1 ≤ mark_at mark p (kid_at i)
    in_kid i lt p some = subst (λ n. 1 ≤ n) (mark_in i lt p) some

    pub waits_above : (j : ℕ) (q : List ℕ) → 1 ≤ mark_at mark (j ∷ q) value → holds_of waits (item_at (j ∷ []) value) ≡ true
    waits_above j q some = marked.above (j ∷ []) q (subst (HoldsOfItem (λ _. Unit {0})) (sym (top_item j (marked_within j q some))) tt) some

    marked_below : (i : ℕ) → i < length kids → AreMarked mark waits (kid_at i)
    marked_below i lt = record {
      above = λ p q there some.
          ap (holds_of waits) (sym (item_in i lt p)) ∙ marked.above (i ∷ p) q (subst (HoldsOfItem (λ _. Unit {0})) (sym (item_in i lt p)) there) (subst (λ n. 1 ≤ n) (sym (mark_in i lt (p ++ q))) some);
      below = λ p w. let r = marked.below (i ∷ p) (ap (holds_of waits) (item_in i lt p) ∙ w) in (r.0, in_kid i lt (p ++ r.0) (r.1));
    }

    -- of the children in which something waits

    waiting_there : (i : ℕ) → holds_of waits (item_at (i ∷ []) value) ≡ true → IsPosition value (i ∷ [])
    waiting_there i = by (item_at (i ∷ []) value)
      where
        by : (o : Option T) → holds_of waits o ≡ true → HoldsOfItem (λ _. Unit {0}) o
        by None h = absurd (cc h)
        by (Some x) h = tt

    waiting_within : (i : ℕ) → holds_of waits (item_at (i ∷ []) value) ≡ true → i < length kids
    waiting_within i w = within i [] (waiting_there i w)

    counted_is : (i : ℕ) → holds_of waits (item_at (i ∷ []) value) ≡ true → counted i ≡ children_at [] value i
    counted_is i w = passing_there waits (children_at [] value) i w

    counts : (j : ℕ) (q : List ℕ) → 1 ≤ mark_at mark (j ∷ q) value → IsThere order counted j
    counts j q some = let w = waits_above j q some in subst (HoldsOfItem (λ _. Unit {0})) (sym (counted_is j w)) (waiting_there j w)

    counted_cmp : (i j : ℕ) → holds_of waits (item_at (i ∷ []) value) ≡ true → holds_of waits (item_at (j ∷ []) value) ≡ true → child_cmp order counted i j ≡ child_cmp order (children_at [] value) i j
    counted_cmp i j v w = λ k. option_cmp order (counted_is i v k) (counted_is j w k)

    abbrev IsWaiting : Option ℕ → Type 0
    IsWaiting after = IfSome after (λ i. holds_of waits (item_at (i ∷ []) value) ≡ true)

    -- a child comes after that one, or does not
    either : (after : Option ℕ) → IsWaiting after → (j : ℕ) (q : List ℕ) → 1 ≤ mark_at mark (j ∷ q) value → IsUpToChild order value after j ⊎ ComesAfter order counted after j
    either None v j q some = inr tt
    either (Some i) v j q some =
        let w = waits_above j q some in
        let li = waiting_within i v in
        let lj = marked_within j q some in
        elim (two i j li lj) [
          | inl same ↦ inl (inl (sym same))
          | inr other ↦ elim other [ inl less ↦ inr (counted_cmp i j v w ∙ less) | inr less ↦ inl (inr (in_sooner j i lj li less)) ]
        ]

    pub none_below : (after : Option ℕ) → IsWaiting after → HasNoneAfter order counted after → HasNoMarkBelow order mark value after
    none_below after v none j q some = elim (either after v j q some) [ inl u ↦ u | inr later ↦ absurd (none j (counts j q some) later) ]

    module _ (after : Option ℕ) (v : IsWaiting after) (n : ℕ) (next : IsFirstAfter order counted after n) where
      passes : (i : ℕ) → IsThere order counted i → holds_of waits (item_at (i ∷ []) value) ≡ true
      passes i = by (item_at (i ∷ []) value)
        where
          by : (o : Option T) → HoldsOfItem (λ _. Unit {0}) (that_pass waits (λ _. o) i) → holds_of waits o ≡ true
          by None h = absurd h
          by (Some x) h = kept (waits x) refl h
            where
              kept : (b : Bool) → waits x ≡ b → HoldsOfItem (λ (y : T). Unit {0}) (Rattle.std.specs.Prelude.cond b (Some x) None) → b ≡ true
              kept true t h = refl
              kept false t h = absurd h

      pub next_waits : holds_of waits (item_at (n ∷ []) value) ≡ true
      next_waits = passes n next.there

      pub next_within : n < length kids
      next_within = waiting_within n next_waits

      later_child : (a : Option ℕ) → IsWaiting a → ComesAfter order counted a n → IsAfterChild order value a n
      later_child None w h = tt
      later_child (Some i) w h = in_sooner i n (waiting_within i w) next_within (sym (counted_cmp i n w next_waits) ∙ h)

      first_below : (m : ℕ) → IsFirstMark order mark (kid_at n) m → IsMarkBelow order mark value after m
      first_below m f = record {
        child = n;
        position = f.position;
        is = mark_in n next_within f.position ∙ f.is;
        some = f.some;
        later = later_child after v next.later;
        first = λ j q some. elim (either after v j q some) [ inl u ↦ inl u | inr later ↦ inr (sooner j q some later (two n j next_within (marked_within j q some))) ];
      }
        where
          sooner : (j : ℕ) (q : List ℕ) → 1 ≤ mark_at mark (j ∷ q) value → ComesAfter order counted after j → AreTwo n j → IsUpTo order value (n ∷ f.position) (j ∷ q)
          sooner j q some later (inl same) =
              subst (λ k. IsUpTo order value (n ∷ f.position) (k ∷ q)) same
              (up_to_in n next_within f.position q (f.first q (in_kid n next_within q (subst (λ k. 1 ≤ mark_at mark (k ∷ q) value) (sym same) some))))
          sooner j q some later (inr (inl less)) = inr (in_sooner n j next_within (marked_within j q some) less f.position q)
          sooner j q some later (inr (inr less)) =
              let w = waits_above j q some in
              let lj = marked_within j q some in
              let greater : child_cmp order counted n j ≡ Greater =
              counted_cmp n j next_waits w ∙ cmp_tops n j next_within lj ∙ total.antisymm (top_at n next_within).item (top_at j lj).item ∙ ap ordering_reverse (sym (cmp_tops j n lj next_within) ∙ less) in
              let not = next.first j (counts j q some) later in
              let is = ap is_gt greater in
              absurd (cc (not, is))

      module _ (kid : List (Spot T)) (is : kid ≡ get_or kids n kid) where
        kid_same : kid_at n ≡ kid
        kid_same = get_or_default kids n [] kid next_within ∙ sym is

        pub next_once : HasPathsOnce kid
        next_once = once_in_child name item kids value e n kid next_within is once

        pub next_marked : AreMarked mark waits kid
        next_marked = subst (AreMarked mark waits) kid_same (marked_below n next_within)

        pub kid_waits : holds_of waits (item_at [] kid) ≡ true
        kid_waits = ap (holds_of waits) (sym (item_in n next_within [] ∙ ap (item_at []) kid_same)) ∙ next_waits

        pub first_in : (m : ℕ) → IsFirstMark order mark kid m → IsMarkBelow order mark value after m
        first_in m f = first_below m (subst (λ ss. IsFirstMark order mark ss m) (sym kid_same) f)

    -- what waits at the item itself, and what does so in its children

    own_mark : mark_at mark [] value ≡ mark item
    own_mark = ap (λ ss. mark_at mark [] ss) (sym e)

    pub own_first : 1 ≤ mark item → IsFirstMark order mark value (mark item)
    own_first some = record { position = []; is = own_mark; some = some; first = first }
      where
        first : (q : List ℕ) → 1 ≤ mark_at mark q value → IsUpTo order value [] q
        first [] h = inl refl
        first (j ∷ q) h = inr (root_first j (marked_within j q h) q)

    pub some_below : mark item ≡ 0 → holds_of waits (item_at [] value) ≡ true → HasNoMarkBelow order mark value None → ⊥
    some_below z w none = by (marked.below [] w).0 (marked.below [] w).1
      where
        by : (q : List ℕ) → 1 ≤ mark_at mark q value → ⊥
        by [] h = absurd (omega (arith, h, own_mark, z))
        by (j ∷ q) h = none j q h

    pub below_first : mark item ≡ 0 → (m : ℕ) → IsMarkBelow order mark value None m → IsFirstMark order mark value m
    below_first z m b = record { position = b.child ∷ b.position; is = b.is; some = b.some; first = first }
      where
        first : (q : List ℕ) → 1 ≤ mark_at mark q value → IsUpTo order value (b.child ∷ b.position) q
        first [] h = absurd (omega (arith, h, own_mark, z))
        first (j ∷ q) h = elim (b.first j q h) [ inl u ↦ absurd u | inr u ↦ u ]

    none_after_root : HasNoMarkBelow order mark value None → HasNoMarkAfter order mark value []
    none_after_root none [] h = inl refl
    none_after_root none (j ∷ q) h = absurd (none j q h)

    below_within : (after : Option ℕ) (m : ℕ) (b : IsMarkBelow order mark value after m) → b.child < length kids
    below_within after m b = marked_within b.child b.position (subst (λ n. 1 ≤ n) (sym b.is) b.some)

    after_root : (m : ℕ) → IsMarkBelow order mark value None m → IsMarkAfter order mark value [] m
    after_root m b = record { position = b.child ∷ b.position; is = b.is; some = b.some; later = root_first b.child (below_within None m b) b.position; first = first }
      where
        first : (q : List ℕ) → 1 ≤ mark_at mark q value → IsUpTo order value q [] ⊎ IsUpTo order value (b.child ∷ b.position) q
        first [] h = inl (inl refl)
        first (j ∷ q) h = elim (b.first j q h) [ inl u ↦ absurd u | inr u ↦ inr u ]

    pub at_root : (next : Option ℕ) → MatchOption next (HasNoMarkBelow order mark value None) (IsMarkBelow order mark value None) → MatchOption next (HasNoMarkAfter order mark value []) (IsMarkAfter order mark value [])
    at_root None h = none_after_root h
    at_root (Some m) h = after_root m h

    -- after what waits in a child

    module _ (i : ℕ) (rest : List ℕ) (there : 1 ≤ mark_at mark (i ∷ rest) value) where
      pub has_child : i < length kids
      has_child = marked_within i rest there

      module _ (kid : List (Spot T)) (is : kid ≡ get_or kids i kid) where
        child_same : kid_at i ≡ kid
        child_same = get_or_default kids i [] kid has_child ∙ sym is

        pub child_once : HasPathsOnce kid
        child_once = once_in_child name item kids value e i kid has_child is once

        pub child_marked : AreMarked mark waits kid
        child_marked = subst (AreMarked mark waits) child_same (marked_below i has_child)

        child_some : (q : List ℕ) → 1 ≤ mark_at mark (i ∷ q) value → 1 ≤ mark_at mark q kid
        child_some q h = subst (λ ss. 1 ≤ mark_at mark q ss) child_same (in_kid i has_child q h)

        child_up : (p q : List ℕ) → IsUpTo order kid p q → IsUpTo order value (i ∷ p) (i ∷ q)
        child_up p q u = up_to_in i has_child p q (subst (λ ss. IsUpTo order ss p q) (sym child_same) u)

        pub child_there : 1 ≤ mark_at mark rest kid
        child_there = child_some rest there

        pub after_in : (m : ℕ) → IsMarkAfter order mark kid rest m → IsMarkAfter order mark value (i ∷ rest) m
        after_in m a = record { position = i ∷ a.position; is = mark_in i has_child a.position ∙ ap (mark_at mark a.position) child_same ∙ a.is; some = a.some; later = in_one i has_child rest a.position ∙ ap (λ ss. place_cmp order ss rest a.position) child_same ∙ a.later; first = first }
          where
            other : (j : ℕ) (q : List ℕ) → 1 ≤ mark_at mark (j ∷ q) value → AreTwo i j → IsUpTo order value (j ∷ q) (i ∷ rest) ⊎ IsUpTo order value (i ∷ a.position) (j ∷ q)
            other j q h (inl same) =
                subst (λ k. IsUpTo order value (k ∷ q) (i ∷ rest) ⊎ IsUpTo order value (i ∷ a.position) (k ∷ q)) same
                (elim (a.first q (child_some q (subst (λ k. 1 ≤ mark_at mark (k ∷ q) value) (sym same) h))) [ inl u ↦ inl (child_up q rest u) | inr u ↦ inr (child_up a.position q u) ])
            other j q h (inr (inl less)) = inr (inr (in_sooner i j has_child (marked_within j q h) less a.position q))
            other j q h (inr (inr less)) = inl (inr (in_sooner j i (marked_within j q h) has_child less q rest))

            first : (q : List ℕ) → 1 ≤ mark_at mark q value → IsUpTo order value q (i ∷ rest) ⊎ IsUpTo order value (i ∷ a.position) q
            first [] h = inl (inr (root_first i has_child rest))
            first (j ∷ q) h = other j q h (two i j has_child (marked_within j q h))

        module _ (none : HasNoMarkAfter order mark kid rest) where
          up_to : (j : ℕ) (q : List ℕ) → 1 ≤ mark_at mark (j ∷ q) value → IsUpToChild order value (Some i) j → IsUpTo order value (j ∷ q) (i ∷ rest)
          up_to j q h (inl same) =
              subst (λ k. IsUpTo order value (k ∷ q) (i ∷ rest)) (sym same) (child_up q rest (none q (child_some q (subst (λ k. 1 ≤ mark_at mark (k ∷ q) value) same h))))
          up_to j q h (inr all) = inr (all q rest)

          none_after : HasNoMarkBelow order mark value (Some i) → HasNoMarkAfter order mark value (i ∷ rest)
          none_after last [] h = inr (root_first i has_child rest)
          none_after last (j ∷ q) h = up_to j q h (last j q h)

          after_child : (m : ℕ) → IsMarkBelow order mark value (Some i) m → IsMarkAfter order mark value (i ∷ rest) m
          after_child m b = record { position = b.child ∷ b.position; is = b.is; some = b.some; later = b.later rest b.position; first = first }
            where
              first : (q : List ℕ) → 1 ≤ mark_at mark q value → IsUpTo order value q (i ∷ rest) ⊎ IsUpTo order value (b.child ∷ b.position) q
              first [] h = inl (inr (root_first i has_child rest))
              first (j ∷ q) h = elim (b.first j q h) [ inl u ↦ inl (up_to j q h u) | inr u ↦ inr u ]

          pub after_all : (next : Option ℕ) → MatchOption next (HasNoMarkBelow order mark value (Some i)) (IsMarkBelow order mark value (Some i)) → MatchOption next (HasNoMarkAfter order mark value (i ∷ rest)) (IsMarkAfter order mark value (i ∷ rest))
          after_all None h = none_after h
          after_all (Some m) h = after_child m h

-- no two items of a tree are alike in the order of service, where no two of one child are
abbrev DifferInside : {T : Type 0} → (T → T → Ordering) → List (List (Spot T)) → Type 0
DifferInside order kids = (i : ℕ) → i < length kids → HasPathsOnce (get_or kids i []) → (p q : List ℕ) → IsPosition (get_or kids i []) p → IsPosition (get_or kids i []) q → place_cmp order (get_or kids i []) p q ≡ Equal → p ≡ q

module _ {T : Type 0} (order : T → T → Ordering) (total : IsTotalOrder order) (name : T → List ℕ) (names : (x y : T) → order x y ≡ Equal → name x ≡ name y) where
  pub all_differ : {ss : List (Spot T)} → AreSpots name ss → HasPathsOnce ss → (p q : List ℕ) → IsPosition ss p → IsPosition ss q → place_cmp order ss p q ≡ Equal → p ≡ q
  all_differ (of_tree item kids each) once p q hp hq same = by (λ i lt. all_differ (each i lt)) p q hp hq same
    where
      value : List (Spot T)
      value = spots name item kids

      trees : All (AreSpots name) kids
      trees i d lt = subst (AreSpots name) (get_or_default kids i [] d lt) (each i lt)

      in_kids : DifferInside order kids → (i : ℕ) (p q : List ℕ) → (lt : i < length kids) → IsPosition value (i ∷ p) → IsPosition value (i ∷ q) → place_cmp order value (i ∷ p) (i ∷ q) ≡ Equal → p ≡ q
      in_kids deeper i p q lt hp hq same =
          let kid = get_or kids i [] in
          let at : kid ≡ get_or kids i kid = get_or_default kids i [] kid lt in
          deeper i lt (once_in_child name item kids value refl i kid lt at once) p q
          (subst (HoldsOfItem (λ _. Unit {0})) (item_in order total name names item kids value refl trees once i lt p) hp)
          (subst (HoldsOfItem (λ _. Unit {0})) (item_in order total name names item kids value refl trees once i lt q) hq)
          (sym (in_one order total name names item kids value refl trees once i lt p q) ∙ same)

      turned : (i j : ℕ) (p q : List ℕ) → place_cmp order value (j ∷ q) (i ∷ p) ≡ ordering_reverse (place_cmp order value (i ∷ p) (j ∷ q))
      turned i j p q = (Rattle.std.proofs.lemmas.Cmp.lists_total total).antisymm (drop 1 (items_along (j ∷ q) value)) (drop 1 (items_along (i ∷ p) value))

      no_less : (a b : Ordering) → b ≡ ordering_reverse a → b ≡ Less → a ≡ Equal → ⊥
      no_less a b t l s = let u = ap ordering_reverse s in cc (t, l, u)

      by : DifferInside order kids → (p q : List ℕ) → IsPosition value p → IsPosition value q → place_cmp order value p q ≡ Equal → p ≡ q
      by deeper [] [] hp hq same = refl
      by deeper [] (j ∷ q) hp hq same = absurd (let less = root_first order total name names item kids value refl trees once j (within order total name names item kids value refl trees once j q hq) q in cc (less, same))
      by deeper (i ∷ p) [] hp hq same = absurd (let more = root_last order total name names item kids value refl trees once i (within order total name names item kids value refl trees once i p hp) p in cc (more, same))
      by deeper (i ∷ p) (j ∷ q) hp hq same =
          let li = within order total name names item kids value refl trees once i p hp in
          let lj = within order total name names item kids value refl trees once j q hq in
          elim (two order total name names item kids value refl trees once i j li lj) [
            | inl one ↦
                let to = subst (λ k. IsPosition value (k ∷ q)) (sym one) hq in
                let alike = subst (λ k. place_cmp order value (i ∷ p) (k ∷ q) ≡ Equal) (sym one) same in
                (λ k. one k ∷ in_kids deeper i p q li hp to alike k)
            | inr other ↦ elim other [
              | inl less ↦ absurd (let l = in_sooner order total name names item kids value refl trees once i j li lj less p q in cc (l, same))
              | inr less ↦ absurd (no_less (place_cmp order value (i ∷ p) (j ∷ q)) (place_cmp order value (j ∷ q) (i ∷ p)) (turned i j p q) (in_sooner order total name names item kids value refl trees once j i lj li less q p) same)
            ]
          ]
