-- What is served first or next of what waits in a tree that a snapshot keeps.
use Rattle.cap_copy.proofs.Prelude.{◌≡◌, ℕ, ◌+◌, ◌-◌, ◌<◌, ◌≤◌, false, List, [], length, get_or, map, drop, Some, None, refl, sym, ◌∙◌, ap, subst, arith, inl, inr, ◌⊎◌, slice_get, option_map_or, nat_cmp, ordering_reverse, ordering_then, is_gt, Ordering, Less, Equal, Greater, IsTotalOrder, nat_cmp_is, slice_cmp, cases_lt, lists_total, on_total, tied_itself, drop-map, get_or_default, slice_get-get_or, slice_get_within, holds_of, level_cmp, Row, IsFirstFrom, IsSeenTree, SeenQueue, rows_seen, seen_cmp, HasPathsOnce, items_along, levels_at, queue_cmp, queue_cmp_total, IsFirstLater, IsLater, IsNextServed, waiting_cmp, Spot, IsPosition, item_at, HasNoMarkAfter, IsFirstMark, IsMarkAfter, mark_at, place_cmp}
use Rattle.cap_tree.specs.Walk.{IsUpTo}
use Rattle.cap_copy.proofs.Copies.{items_along-made, made-position, once-made}
use Rattle.cap_tree.proofs.ServiceRows.{cmp_mapped, rows_once, served_rows}
use Rattle.cap_tree.proofs.Walks.{mark_there}

-- comparisons of numbers

less_numbers : (i j : ℕ) → nat_cmp i j ≡ Less → i < j
less_numbers i j less = elim (cases_lt i j) [ inl l ↦ l | inr g ↦ absurd (by (cases_lt j i) g) ]
  where
    by : (j < i) ⊎ (i ≤ j) → j ≤ i → ⊥
    by (inl l) g = let e = nat_cmp_is i j Greater l in cc (e, less)
    by (inr l) g = let s : i ≡ j = omega (arith, l, g) in let e = nat_cmp_is i j Equal s in cc (e, less)

less_from : (i j : ℕ) → i < j → nat_cmp i j ≡ Less
less_from i j l = sym (nat_cmp_is i j Less l)

not_greater : (i j : ℕ) → i ≤ j → is_gt (nat_cmp i j) ≡ false
not_greater i j le = elim (cases_lt i j) [ inl l ↦ ap is_gt (less_from i j l) | inr g ↦ ap is_gt (sym (nat_cmp_is i j Equal (let e : i ≡ j = omega (arith, le, g) in e))) ]

less_not_equal : Less ≡ Equal → ⊥
less_not_equal e = cc e

less_not_greater : Less ≡ Greater → ⊥
less_not_greater e = cc e

module _ (ss : List (Spot SeenQueue)) (waiting : List (List ℕ)) (links : List ℕ) (tree : IsSeenTree ss waiting links) where
  abbrev rows : List Row
  rows = rows_seen ss

  abbrev first_at : List ℕ → ℕ
  first_at p = mark_at (λ q. q.first) p ss

  abbrev cmp_at : List ℕ → List ℕ → Ordering
  cmp_at = place_cmp seen_cmp ss

  places_total : IsTotalOrder (slice_cmp seen_cmp)
  places_total = lists_total (on_total (λ (q : SeenQueue). q.queue) queue_cmp_total)

  same_place : (p q : List ℕ) → p ≡ q → cmp_at p q ≡ Equal
  same_place p q e = ap (cmp_at p) (sym e) ∙ tied_itself places_total (drop 1 (items_along p ss))

  turned : (p q : List ℕ) → cmp_at q p ≡ Less → cmp_at p q ≡ Greater
  turned p q less = places_total.antisymm (drop 1 (items_along p ss)) (drop 1 (items_along q ss)) ∙ ap ordering_reverse less

  -- what waits is there, and has a mark

  pub has_mark : (j : ℕ) (p : List ℕ) → slice_get waiting j ≡ Some p → (1 ≤ first_at p) × (first_at p ≤ j + 1)
  has_mark j p h = (tree.firsts p).least j (omega arith) h

  is_there : (j : ℕ) (p : List ℕ) → slice_get waiting j ≡ Some p → IsPosition ss p
  is_there j p h = mark_there (λ q. q.first) p ss (has_mark j p h).0

  of_mark : (m : ℕ) (p : List ℕ) → first_at p ≡ m → 1 ≤ m → slice_get waiting (m - 1) ≡ Some p
  of_mark m p e some = subst (λ n. slice_get waiting (n - 1) ≡ Some p) e ((tree.firsts p).there (subst (λ n. 1 ≤ n) (sym e) some)).1

  pub once : HasPathsOnce ss
  once = once-made (λ (q : SeenQueue). q.queue) ss (rows_once rows tree.rows_are.paths)

  abbrev place : ℕ → List ℕ
  place j = get_or waiting j []

  waits_at : (j : ℕ) → j < length waiting → slice_get waiting j ≡ Some (place j)
  waits_at j lt = slice_get-get_or waiting j [] lt

  -- the order of what waits, by places

  place_cmp_rows : (p q : List ℕ) → IsPosition ss p → IsPosition ss q → cmp_at p q ≡ slice_cmp level_cmp (levels_at p rows) (levels_at q rows)
  place_cmp_rows p q hp hq =
      cmp_mapped (λ (s : SeenQueue). s.queue) queue_cmp (drop 1 (items_along p ss)) (drop 1 (items_along q ss))
      ∙ (λ k. slice_cmp queue_cmp (queues p k) (queues q k))
      ∙ served_rows p q rows tree.rows_are (made-position (λ (s : SeenQueue). s.queue) p ss hp) (made-position (λ (s : SeenQueue). s.queue) q ss hq)
    where
      queues : (p : List ℕ) → map (λ (s : SeenQueue). s.queue) (drop 1 (items_along p ss)) ≡ drop 1 (items_along p rows)
      queues p = sym (drop-map (λ (s : SeenQueue). s.queue) 1 (items_along p ss)) ∙ ap (drop 1) (sym (items_along-made (λ (s : SeenQueue). s.queue) p ss))

  cmp_is : (i j : ℕ) (p q : List ℕ) → slice_get waiting i ≡ Some p → slice_get waiting j ≡ Some q → waiting_cmp rows waiting i j ≡ ordering_then (cmp_at p q) (nat_cmp i j)
  cmp_is i j p q hp hq =
      let place_is = λ (k : ℕ) (r : List ℕ) (h : slice_get waiting k ≡ Some r). ap (λ o. option_map_or (λ x. x) o []) h in
      ap (λ o. ordering_then o (nat_cmp i j)) ((λ k. slice_cmp level_cmp (levels_at (place_is i p hp k) rows) (levels_at (place_is j q hq k) rows)) ∙ sym (place_cmp_rows p q (is_there i p hp) (is_there j q hq)))

  -- what is served first of a place is not after what else is there, nor after what is at later places
  not_after : (m j : ℕ) (p q : List ℕ) → slice_get waiting (m - 1) ≡ Some p → slice_get waiting j ≡ Some q → (p ≡ q → m ≤ j + 1) → IsUpTo seen_cmp ss p q → is_gt (waiting_cmp rows waiting (m - 1) j) ≡ false
  not_after m j p q hp hq le (inl same) = ap is_gt (cmp_is (m - 1) j p q hp hq ∙ ap (λ o. ordering_then o (nat_cmp (m - 1) j)) (same_place p q same)) ∙ not_greater (m - 1) j (let l = le same in omega (arith, l))
  not_after m j p q hp hq le (inr less) = ap is_gt (cmp_is (m - 1) j p q hp hq ∙ ap (λ o. ordering_then o (nat_cmp (m - 1) j)) less)

  -- the first of all

  pub first_is : (m : ℕ) → IsFirstMark seen_cmp (λ q. q.first) ss m → IsFirstLater rows waiting None (m - 1)
  first_is m f =
      let at = of_mark m f.position f.is f.some in
      record {
        there = slice_get_within waiting (m - 1) f.position at;
        later = tt;
        first = λ j lt later.
            let h = waits_at j lt in
            let k = has_mark j (place j) h in
            not_after m j f.position (place j) at h (λ same. let e = sym f.is ∙ ap first_at same in let n = k.1 in omega (arith, e, n)) (f.first (place j) k.0);
      }

  pub none_first : IsPosition ss [] → holds_of (λ q. q.waits) (item_at [] ss) ≡ false → IsNextServed rows waiting None None
  none_first root w j lt later = let h = waits_at j lt in let t = tree.marked.above [] (place j) root (has_mark j (place j) h).0 in cc (w, t)

  -- the next after one that waits at a place

  module _ (a : ℕ) (p : List ℕ) (at : slice_get waiting a ≡ Some p) where
    later_cases : (j : ℕ) (q : List ℕ) → slice_get waiting j ≡ Some q → IsLater rows waiting (Some a) j → ordering_then (cmp_at p q) (nat_cmp a j) ≡ Less
    later_cases j q h later = sym (cmp_is a j p q at h) ∙ later

    link : IsFirstFrom waiting p (a + 1) (get_or links a 0)
    link = tree.linked a p at

    pub link_read : (d : ℕ) → d ≡ get_or links a d → d ≡ get_or links a 0
    link_read d e = e ∙ get_or_default links a d 0 (let w = slice_get_within waiting a p at in let m = tree.many in omega (arith, w, m))

    -- it does not come later at the place, where no link leads on
    none_here : get_or links a 0 ≡ 0 → (j : ℕ) (q : List ℕ) → slice_get waiting j ≡ Some q → IsLater rows waiting (Some a) j → IsUpTo seen_cmp ss q p → ⊥
    none_here z j q h later (inl same) =
        let less = less_numbers a j (ap (λ o. ordering_then o (nat_cmp a j)) (sym (same_place p q (sym same))) ∙ later_cases j q h later) in
        let some = (link.least j (omega (arith, less)) (h ∙ ap Some same)).0 in
        absurd (omega (arith, some, z))
    none_here z j q h later (inr before) = less_not_greater (sym (later_cases j q h later) ∙ ap (λ o. ordering_then o (nat_cmp a j)) (turned p q before))

    pub none_next : get_or links a 0 ≡ 0 → HasNoMarkAfter seen_cmp (λ q. q.first) ss p → IsNextServed rows waiting (Some a) None
    none_next z none j lt later = let h = waits_at j lt in none_here z j (place j) h later (none (place j) (has_mark j (place j) h).0)

    pub next_is : get_or links a 0 ≡ 0 → (m : ℕ) → IsMarkAfter seen_cmp (λ q. q.first) ss p m → IsFirstLater rows waiting (Some a) (m - 1)
    next_is z m f =
        let new = of_mark m f.position f.is f.some in
        record {
          there = slice_get_within waiting (m - 1) f.position new;
          later = cmp_is a (m - 1) p f.position at new ∙ ap (λ o. ordering_then o (nat_cmp a (m - 1))) f.later;
          first = λ j lt later.
              let h = waits_at j lt in
              let k = has_mark j (place j) h in
              elim (f.first (place j) k.0) [
                | inl u ↦ absurd (none_here z j (place j) h later u)
                | inr u ↦ not_after m j f.position (place j) new h (λ same. let e = sym f.is ∙ ap first_at same in let n = k.1 in omega (arith, e, n)) u
              ];
        }

    -- a link leads to the next at the same place
    module _ (differ : (p q : List ℕ) → IsPosition ss p → IsPosition ss q → cmp_at p q ≡ Equal → p ≡ q) (some : 1 ≤ get_or links a 0) where
      pub link_is : IsFirstLater rows waiting (Some a) (get_or links a 0 - 1)
      link_is =
          let r = link.there some in
          let l = r.0 in
          let new = r.1 in
          record {
            there = slice_get_within waiting (get_or links a 0 - 1) p new;
            later = cmp_is a (get_or links a 0 - 1) p p at new ∙ ap (λ o. ordering_then o (nat_cmp a (get_or links a 0 - 1))) (same_place p p refl) ∙ less_from a (get_or links a 0 - 1) (omega (arith, l));
            first = λ j lt later. let h = waits_at j lt in by j (place j) h later (cmp_at p (place j)) refl;
          }
        where
          by : (j : ℕ) (q : List ℕ) → slice_get waiting j ≡ Some q → IsLater rows waiting (Some a) j → (o : Ordering) → cmp_at p q ≡ o → is_gt (waiting_cmp rows waiting (get_or links a 0 - 1) j) ≡ false
          by j q h later Less e = not_after (get_or links a 0) j p q (link.there some).1 h (λ same. absurd (less_not_equal (sym e ∙ same_place p q same))) (inr e)
          by j q h later Equal e =
              let same = differ p q (is_there a p at) (is_there j q h) e in
              let less = less_numbers a j (ap (λ o. ordering_then o (nat_cmp a j)) (sym e) ∙ later_cases j q h later) in
              not_after (get_or links a 0) j p q (link.there some).1 h (λ _. (link.least j (omega (arith, less)) (h ∙ ap Some (sym same))).1) (inl same)
          by j q h later Greater e = absurd (less_not_greater (sym (later_cases j q h later) ∙ ap (λ o. ordering_then o (nat_cmp a j)) e))
