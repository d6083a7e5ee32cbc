-- Counts of what is own and of all below, at each level of a tree: after a change along a way, and where something waits.
use Rattle.cap_tree.proofs.Prelude.{◌≡◌, ℕ, ◌+◌, ◌-◌, ◌<◌, ◌≤◌, true, List, [], ◌∷◌, ◌++◌, length, get_or, set, map, sum_by, sum_by-cons, Option, Some, None, refl, sym, ◌∙◌, ap, subst, inl, inr, arith, zero, suc, cases_eq, cases_lt, get_or_default, get_or-set_same, get_or-set_other, length-set, option_map_or, holds_of, nat_lt, nat_tests, Spot, HoldsOfItem, IsPosition, change_along, first_of, item_at, spots}
use Rattle.cap_tree.proofs.Spots.{change-spots, change-spots_root, child-le-sum, holds-within, item_at-spots, sum-set_child}
use Rattle.cap_tree.proofs.Walks.{mark_there}
use Rattle.cap_tree.specs.Branch.{AreSpots, of_tree}
use Rattle.cap_tree.specs.Counted.{AreCounted, counted}
use Rattle.cap_tree.specs.Walk.{AreMarked, mark_at}

module _ {T : Type 0} (name : T → List ℕ) (good : T → Type 0) (stored own : T → ℕ) where
  abbrev Counted : List (Spot T) → Type 0
  Counted ss = AreCounted name good stored own ss

  -- a change of items above, and of one: an old count goes away, and a new one comes
  module _ (f g : T → T) (old new : ℕ) (f_name : (x : T) → name (f x) ≡ name x) (g_name : (x : T) → name (g x) ≡ name x) (f_good : (x : T) → good x → good (f x)) (f_own : (x : T) → own (f x) ≡ own x)
      (f_stored : (x : T) → stored (f x) ≡ stored x - old + new) (g_stored : (x : T) → stored (g x) ≡ stored x - old + new) where
    -- that it may be made of the one
    pub record MayBeMade (x : T) : Type 0 where
      pub is_good : good (g x)
      pub fits : old ≤ own x
      pub own_is : own (g x) ≡ own x - old + new

    pub record IsCounted (steps : List ℕ) (ss : List (Spot T)) : Type 0 where
      pub is : AreCounted name good stored own (map (change_along f g steps) ss)
      pub fits : old ≤ first_of stored ss
      pub moved : first_of stored (map (change_along f g steps) ss) ≡ first_of stored ss - old + new

    pub counted_changed : {ss : List (Spot T)} → AreCounted name good stored own ss → (steps : List ℕ) → HoldsOfItem MayBeMade (item_at steps ss) → IsCounted steps ss
    counted_changed (counted item kids ok sum each) [] p = record {
      is = subst (AreCounted name good stored own) (change-spots_root f g name item kids (g_name item))
          (counted (g item) kids p.is_good (let s = g_stored item in let o = p.own_is in let h = p.fits in omega (arith, s, o, h, sum)) each);
      fits = let h = p.fits in omega (arith, h, sum);
      moved = g_stored item;
    }
    counted_changed (counted item kids ok sum each) (n ∷ steps) p =
        let kid = get_or kids n [] in
        let lt : n < length kids = holds-within MayBeMade name item n steps kids p in
        let there : HoldsOfItem MayBeMade (item_at steps kid) = subst (HoldsOfItem MayBeMade) (item_at-spots name item n steps kids) p in
        let r = counted_changed (each n lt) steps there in
        let kid' = map (change_along f g steps) kid in
        let at : kid ≡ get_or kids n kid = get_or_default kids n [] kid lt in
        let least = child-le-sum (first_of stored) kids n kid lt at in
        let moves = sum-set_child (first_of stored) kids n kid kid' lt at in
        let fits = r.fits in
        let moved = r.moved in
        record {
          is = subst (AreCounted name good stored own) (change-spots f g name item n steps kids [] (f_name item))
              (counted (f item) (set kids n kid') (f_good item ok) (let s = f_stored item in let o = f_own item in omega (arith, s, o, sum, least, moves, fits, moved))
              (λ i lt'.
              let l : i < length kids = (let m = length-set kids n kid' in omega (arith, lt', m)) in
              elim (cases_eq i n) [
                | inl same ↦
                    let here : get_or (set kids n kid') i [] ≡ kid' = ap (λ k. get_or (set kids n kid') k []) same ∙ get_or-set_same kids n kid' [] lt in
                    subst (AreCounted name good stored own) (sym here) r.is
                | inr other ↦ subst (AreCounted name good stored own) (sym (get_or-set_other kids n i kid' [] other)) (each i l)
              ]));
          fits = omega (arith, fits, least, sum);
          moved = f_stored item;
        }

  -- each item is good
  pub good_at : {ss : List (Spot T)} → AreCounted name good stored own ss → (p : List ℕ) → HoldsOfItem (λ _. Unit {0}) (item_at p ss) → HoldsOfItem good (item_at p ss)
  good_at (counted item kids ok sum each) [] h = ok
  good_at (counted item kids ok sum each) (n ∷ p) h =
      let lt = holds-within (λ _. Unit {0}) name item n p kids h in
      subst (HoldsOfItem good) (sym (item_at-spots name item n p kids)) (good_at (each n lt) p (subst (HoldsOfItem (λ _. Unit {0})) (item_at-spots name item n p kids) h))

  -- a tree in which nothing is counted yet
  pub record IsUncounted (x : T) : Type 0 where
    pub is_good : good x
    pub stores_none : stored x ≡ 0
    pub owns_none : own x ≡ 0

  no_sum : (kids : List (List (Spot T))) → ((i : ℕ) → i < length kids → first_of stored (get_or kids i []) ≡ 0) → sum_by (first_of stored) kids ≡ 0
  no_sum [] h = refl
  no_sum (k ∷ kids) h =
      let s = sum_by-cons (first_of stored) k kids in
      let first = h 0 (omega arith) in
      let rest = no_sum kids (λ i lt. h (suc i) (omega (arith, lt))) in
      omega (arith, s, first, rest)

  pub none_counted : {ss : List (Spot T)} → AreSpots name ss → ((p : List ℕ) → HoldsOfItem (λ _. Unit {0}) (item_at p ss) → HoldsOfItem IsUncounted (item_at p ss)) → AreCounted name good stored own ss × (first_of stored ss ≡ 0)
  none_counted (of_tree item kids each) all =
      let here : IsUncounted item = all [] tt in
      let below : (i : ℕ) → i < length kids → AreCounted name good stored own (get_or kids i []) × (first_of stored (get_or kids i []) ≡ 0) =
      (λ i lt. none_counted (each i lt) (λ p h. subst (HoldsOfItem IsUncounted) (item_at-spots name item i p kids) (all (i ∷ p) (subst (HoldsOfItem (λ _. Unit {0})) (sym (item_at-spots name item i p kids)) h)))) in
      let s = no_sum kids (λ i lt. (below i lt).1) in
      let a = here.stores_none in
      let b = here.owns_none in
      (counted item kids here.is_good (omega (arith, s, a, b)) (λ i lt. (below i lt).0), a)

  -- where something waits

  module _ (mark : T → ℕ) (mark_own : (x : T) → good x → 1 ≤ mark x → 1 ≤ own x) (own_mark : (x : T) → good x → 1 ≤ own x → 1 ≤ mark x) where
    mark_in : (item : T) (n : ℕ) (q : List ℕ) (kids : List (List (Spot T))) → mark_at mark (n ∷ q) (spots name item kids) ≡ mark_at mark q (get_or kids n [])
    mark_in item n q kids = ap (λ o. option_map_or mark o 0) (item_at-spots name item n q kids)

    least_in : (kids : List (List (Spot T))) (n : ℕ) → n < length kids → first_of stored (get_or kids n []) ≤ sum_by (first_of stored) kids
    least_in kids n lt = child-le-sum (first_of stored) kids n (get_or kids n []) lt (get_or_default kids n [] (get_or kids n []) lt)

    -- the first counts it
    counts_it : {ss : List (Spot T)} → AreCounted name good stored own ss → (q : List ℕ) → 1 ≤ mark_at mark q ss → 1 ≤ first_of stored ss
    counts_it (counted item kids ok sum each) [] h = let o = mark_own item ok h in omega (arith, o, sum)
    counts_it (counted item kids ok sum each) (n ∷ q) h =
        let lt = holds-within (λ _. Unit {0}) name item n q kids (mark_there mark (n ∷ q) (spots name item kids) h) in
        let r = counts_it (each n lt) q (subst (λ m. 1 ≤ m) (mark_in item n q kids) h) in
        let l = least_in kids n lt in
        omega (arith, r, l, sum)

    marked_above : {ss : List (Spot T)} → AreCounted name good stored own ss → (p q : List ℕ) → IsPosition ss p → 1 ≤ mark_at mark (p ++ q) ss → HoldsOfItem (λ x. 1 ≤ stored x) (item_at p ss)
    marked_above (counted item kids ok sum each) [] q there h = counts_it (counted item kids ok sum each) q h
    marked_above (counted item kids ok sum each) (n ∷ p) q there h =
        let lt = holds-within (λ _. Unit {0}) name item n p kids there in
        subst (HoldsOfItem (λ x. 1 ≤ stored x)) (sym (item_at-spots name item n p kids))
        (marked_above (each n lt) p q (subst (HoldsOfItem (λ _. Unit {0})) (item_at-spots name item n p kids) there) (subst (λ m. 1 ≤ m) (mark_in item n (p ++ q) kids) h))

    -- some child counts what it does not count itself
    some_kid : (kids : List (List (Spot T))) → 1 ≤ sum_by (first_of stored) kids → (n : ℕ) × (n < length kids) × (1 ≤ first_of stored (get_or kids n []))
    some_kid [] h = absurd (omega (arith, h))
    some_kid (k ∷ kids) h = elim (cases_lt 0 (first_of stored k)) [
      | inl some ↦ (zero, omega arith, omega (arith, some))
      | inr none ↦
          let s = sum_by-cons (first_of stored) k kids in
          let r = some_kid kids (omega (arith, h, none, s)) in
          let lt = r.1 in
          (suc (r.0), omega (arith, lt), r.2)
    ]

    counted_there : {ss : List (Spot T)} → AreCounted name good stored own ss → 1 ≤ first_of stored ss → (q : List ℕ) × (1 ≤ mark_at mark q ss)
    counted_there (counted item kids ok sum each) h = elim (cases_lt 0 (own item)) [
      | inl some ↦ ([], own_mark item ok (omega (arith, some)))
      | inr none ↦
          let kid = some_kid kids (omega (arith, h, none, sum)) in
          let r = counted_there (each (kid.0) (kid.1)) (kid.2) in
          (kid.0 ∷ r.0, subst (λ m. 1 ≤ m) (sym (mark_in item (kid.0) (r.0) kids)) (r.1))
    ]

    marked_below : {ss : List (Spot T)} → AreCounted name good stored own ss → (p : List ℕ) → HoldsOfItem (λ x. 1 ≤ stored x) (item_at p ss) → (q : List ℕ) × (1 ≤ mark_at mark (p ++ q) ss)
    marked_below (counted item kids ok sum each) [] h = counted_there (counted item kids ok sum each) h
    marked_below (counted item kids ok sum each) (n ∷ p) h =
        let lt = holds-within (λ x. 1 ≤ stored x) name item n p kids h in
        let r = marked_below (each n lt) p (subst (HoldsOfItem (λ x. 1 ≤ stored x)) (item_at-spots name item n p kids) h) in
        (r.0, subst (λ m. 1 ≤ m) (sym (mark_in item n (p ++ r.0) kids)) (r.1))

    -- so an item waits exactly where it or one below it has a mark
    tested : (o : Option T) → HoldsOfItem (λ x. 1 ≤ stored x) o → holds_of (λ x. nat_lt 0 (stored x)) o ≡ true
    tested None h = absurd h
    tested (Some x) h = grind (arith, nat_tests, h)

    passed : (o : Option T) → holds_of (λ x. nat_lt 0 (stored x)) o ≡ true → HoldsOfItem (λ x. 1 ≤ stored x) o
    passed None h = absurd (cc h)
    passed (Some x) h = grind (arith, nat_tests, h)

    pub are_marked : {ss : List (Spot T)} → AreCounted name good stored own ss → AreMarked mark (λ x. nat_lt 0 (stored x)) ss
    are_marked {ss} c = record {
      above = λ p q there h. tested (item_at p ss) (marked_above c p q there h);
      below = λ p h. marked_below c p (passed (item_at p ss) h);
    }
