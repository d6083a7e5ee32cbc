-- What is served first or next of the applications that wait in a tree.
use Rattle.cap_tree.proofs.Prelude.{◌≡◌, ℕ, ◌<◌, ◌≤◌, false, List, [], ◌∷◌, length, drop, Option, Some, None, refl, sym, ◌∙◌, ap, subst, inl, inr, arith, ◌⊎◌, option_map_or, nat_lt, nat_cmp, tied_itself, ordering_reverse, ordering_then, is_gt, Ordering, Less, Equal, Greater, IsTotalOrder, slice_cmp, cases_lt, holds_of, IsIn, Queue, Row, AreRows, HasPathsOnce, items_along, queue_cmp, HoldsOfItem, IsPosition, item_at}
use Rattle.std.proofs.lemmas.Cmp.{lists_total}
use Rattle.std.specs.Cmp.{nat_cmp_is}
use Rattle.cap_tree.proofs.Counted.{are_marked, good_at}
use Rattle.cap_tree.proofs.ServiceRows.{rows_once, served_rows}
use Rattle.cap_tree.specs.Counted.{AreWaiting}
use Rattle.cap_tree.specs.Numbers.{AreNumbers, IsLeastAfter, first_number}
use Rattle.cap_tree.specs.NumberLaws.{at_least}
use Rattle.cap_tree.specs.ServiceLaws.{queue_cmp_total}
use Rattle.cap_tree.specs.Waiting.{HasNoWaiter, IsLaterWaiter, IsNextWaiter, waiter_cmp, waiting_at}
use Rattle.cap_tree.specs.Walk.{AreMarked, HasNoMarkAfter, IsFirstMark, IsMarkAfter, IsUpTo, mark_at, place_cmp}

-- numbers in order and their first

pub first_in : (ns : List ℕ) → 1 ≤ first_number ns → IsIn (first_number ns) ns
first_in [] h = absurd (omega (arith, h))
first_in (n ∷ ns) h = inl refl

pub first_least : (ns : List ℕ) → AreNumbers ns → (m : ℕ) → IsIn m ns → (1 ≤ first_number ns) × (first_number ns ≤ m)
first_least [] a m h = absurd h
first_least (n ∷ ns) a m h = (a.rise.0, at_least n a.end m (n ∷ ns) (omega arith, a.rise.1) h)

pub marked_own : (ns : List ℕ) → 1 ≤ first_number ns → 1 ≤ length ns
marked_own [] h = absurd (omega (arith, h))
marked_own (n ∷ ns) h = omega arith

pub own_marked : (ns : List ℕ) → AreNumbers ns → 1 ≤ length ns → 1 ≤ first_number ns
own_marked [] a h = absurd (omega (arith, h))
own_marked (n ∷ ns) a h = a.rise.0

-- the numbers of the queue are those at the position
pub numbers_are : (rows : List Row) (p : List ℕ) (q : Queue) → item_at p rows ≡ Some q → q.waiting ≡ waiting_at p rows
numbers_are rows p q is = sym (ap (λ o. option_map_or (λ (x : Queue). x.waiting) o []) is)

less_from : (i j : ℕ) → i < j → nat_cmp i j ≡ Less
less_from i j l = sym (nat_cmp_is i j Less l)

less_numbers : (i j : ℕ) → nat_cmp i j ≡ Less → i < j
less_numbers i j less = elim (cases_lt i j) [ inl l ↦ l | inr g ↦ absurd (by (cases_lt j i) g) ]
  where
    by : (j < i) ⊎ (i ≤ j) → j ≤ i → ⊥
    by (inl l) g = let e = nat_cmp_is i j Greater l in cc (e, less)
    by (inr l) g = let s : i ≡ j = omega (arith, l, g) in let e = nat_cmp_is i j Equal s in cc (e, less)

not_greater : (i j : ℕ) → i ≤ j → is_gt (nat_cmp i j) ≡ false
not_greater i j le = elim (cases_lt i j) [ inl l ↦ ap is_gt (less_from i j l) | inr g ↦ ap is_gt (sym (nat_cmp_is i j Equal (let e : i ≡ j = omega (arith, le, g) in e))) ]

less_not_equal : Less ≡ Equal → ⊥
less_not_equal e = cc e

less_not_greater : Less ≡ Greater → ⊥
less_not_greater e = cc e

module _ (rows : List Row) (are : AreRows rows) (waiting : AreWaiting rows) where
  abbrev mark : Queue → ℕ
  mark q = first_number q.waiting

  pub marked : AreMarked (λ q. first_number q.waiting) (λ q. nat_lt 0 q.waits) rows
  marked =
      are_marked (λ q. q.name) (λ q. AreNumbers q.waiting) (λ q. q.waits) (λ q. length q.waiting) (λ q. first_number q.waiting)
      (λ q ok h. marked_own q.waiting h) (λ q ok h. own_marked q.waiting ok h) waiting

  pub once : HasPathsOnce rows
  once = rows_once rows are.paths

  -- each queue has its numbers in order
  numbers_of : (p : List ℕ) → IsPosition rows p → HoldsOfItem (λ (q : Queue). AreNumbers q.waiting) (item_at p rows)
  numbers_of p h = good_at (λ q. q.name) (λ q. AreNumbers q.waiting) (λ q. q.waits) (λ q. length q.waiting) waiting p h

  abbrev cmp_at : List ℕ → List ℕ → Ordering
  cmp_at = place_cmp queue_cmp rows

  places_total : IsTotalOrder (slice_cmp queue_cmp)
  places_total = lists_total queue_cmp_total

  same_place : (p q : List ℕ) → p ≡ q → cmp_at p q ≡ Equal
  same_place p q e = ap (cmp_at p) (sym e) ∙ tied_itself places_total (drop 1 (items_along p rows))

  turned : (p q : List ℕ) → cmp_at q p ≡ Less → cmp_at p q ≡ Greater
  turned p q less = places_total.antisymm (drop 1 (items_along p rows)) (drop 1 (items_along q rows)) ∙ ap ordering_reverse less

  -- what waits at a position is there

  pub there_at : (p : List ℕ) (n : ℕ) → IsIn n (waiting_at p rows) → IsPosition rows p
  there_at p n m = by (item_at p rows) m
    where
      by : (o : Option Queue) → IsIn n (option_map_or (λ q. q.waiting) o []) → HoldsOfItem (λ _. Unit {0}) o
      by None m = absurd m
      by (Some q) m = tt

  pub numbers_at : (p : List ℕ) → IsPosition rows p → AreNumbers (waiting_at p rows)
  numbers_at p h = by (item_at p rows) (numbers_of p h)
    where
      by : (o : Option Queue) → HoldsOfItem (λ (q : Queue). AreNumbers q.waiting) o → AreNumbers (option_map_or (λ q. q.waiting) o [])
      by None h = absurd h
      by (Some q) h = h

  mark_is : (p : List ℕ) → mark_at mark p rows ≡ first_number (waiting_at p rows)
  mark_is p = by (item_at p rows)
    where
      by : (o : Option Queue) → option_map_or mark o 0 ≡ first_number (option_map_or (λ q. q.waiting) o [])
      by None = refl
      by (Some q) = refl

  pub has_mark : (p : List ℕ) (n : ℕ) → IsIn n (waiting_at p rows) → (1 ≤ mark_at mark p rows) × (mark_at mark p rows ≤ n)
  has_mark p n m =
      let least = first_least (waiting_at p rows) (numbers_at p (there_at p n m)) n m in
      let is = mark_is p in
      let some = least.0 in
      let le = least.1 in
      (omega (arith, is, some), omega (arith, is, le))

  of_mark : (n : ℕ) (p : List ℕ) → mark_at mark p rows ≡ n → 1 ≤ n → IsIn n (waiting_at p rows)
  of_mark n p e some =
      let is : first_number (waiting_at p rows) ≡ n = sym (mark_is p) ∙ e in
      subst (λ k. IsIn k (waiting_at p rows)) is (first_in (waiting_at p rows) (omega (arith, is, some)))

  -- the order of what waits, by places

  cmp_is : (p q : List ℕ) (n m : ℕ) → IsIn n (waiting_at p rows) → IsIn m (waiting_at q rows) → waiter_cmp rows p n q m ≡ ordering_then (cmp_at p q) (nat_cmp n m)
  cmp_is p q n m hp hq = ap (λ o. ordering_then o (nat_cmp n m)) (sym (served_rows p q rows are (there_at p n hp) (there_at q m hq)))

  not_after : (p q : List ℕ) (n m : ℕ) → IsIn n (waiting_at p rows) → IsIn m (waiting_at q rows) → (p ≡ q → n ≤ m) → IsUpTo queue_cmp rows p q → is_gt (waiter_cmp rows p n q m) ≡ false
  not_after p q n m hp hq le (inl same) = ap is_gt (cmp_is p q n m hp hq ∙ ap (λ o. ordering_then o (nat_cmp n m)) (same_place p q same)) ∙ not_greater n m (le same)
  not_after p q n m hp hq le (inr less) = ap is_gt (cmp_is p q n m hp hq ∙ ap (λ o. ordering_then o (nat_cmp n m)) less)

  -- the first of all

  pub first_is : (n : ℕ) → IsFirstMark queue_cmp mark rows n → IsNextWaiter rows None n
  first_is n f =
      let at = of_mark n f.position f.is f.some in
      record {
        position = f.position;
        there = at;
        later = tt;
        first = λ q m h later.
            let k = has_mark q m h in
            not_after f.position q n m at h (λ same. let e = sym f.is ∙ ap (λ p. mark_at mark p rows) same in let le = k.1 in omega (arith, e, le)) (f.first q k.0);
      }

  pub none_first : IsPosition rows [] → holds_of (λ (q : Queue). nat_lt 0 q.waits) (item_at [] rows) ≡ false → HasNoWaiter rows None
  none_first root w q m h later = let t = marked.above [] q root (has_mark q m h).0 in cc (w, t)

  -- the next after one that waits at a place

  module _ (p : List ℕ) (n : ℕ) (at : IsIn n (waiting_at p rows)) where
    later_cases : (q : List ℕ) (m : ℕ) → IsIn m (waiting_at q rows) → IsLaterWaiter rows (Some (p, n)) q m → ordering_then (cmp_at p q) (nat_cmp n m) ≡ Less
    later_cases q m h later = sym (cmp_is p q n m at h) ∙ later

    -- it does not come later at the place, where no greater number waits there
    none_here : ((k : ℕ) → IsIn k (waiting_at p rows) → k ≤ n) → (q : List ℕ) (m : ℕ) → IsIn m (waiting_at q rows) → IsLaterWaiter rows (Some (p, n)) q m → IsUpTo queue_cmp rows q p → ⊥
    none_here most q m h later (inl same) =
        let less = less_numbers n m (ap (λ o. ordering_then o (nat_cmp n m)) (sym (same_place p q (sym same))) ∙ later_cases q m h later) in
        let le = most m (subst (λ r. IsIn m (waiting_at r rows)) same h) in
        absurd (omega (arith, less, le))
    none_here most q m h later (inr before) = less_not_greater (sym (later_cases q m h later) ∙ ap (λ o. ordering_then o (nat_cmp n m)) (turned p q before))

    pub none_next : ((k : ℕ) → IsIn k (waiting_at p rows) → k ≤ n) → HasNoMarkAfter queue_cmp mark rows p → HasNoWaiter rows (Some (p, n))
    none_next most none q m h later = none_here most q m h later (none q (has_mark q m h).0)

    pub next_is : ((k : ℕ) → IsIn k (waiting_at p rows) → k ≤ n) → (i : ℕ) → IsMarkAfter queue_cmp mark rows p i → IsNextWaiter rows (Some (p, n)) i
    next_is most i f =
        let new = of_mark i f.position f.is f.some in
        record {
          position = f.position;
          there = new;
          later = cmp_is p f.position n i at new ∙ ap (λ o. ordering_then o (nat_cmp n i)) f.later;
          first = λ q m h later.
              let k = has_mark q m h in
              elim (f.first q k.0) [
                | inl u ↦ absurd (none_here most q m h later u)
                | inr u ↦ not_after f.position q i m new h (λ same. let e = sym f.is ∙ ap (λ r. mark_at mark r rows) same in let le = k.1 in omega (arith, e, le)) u
              ];
        }

    -- a greater number leads to the next at the same place
    pub here_is : ((p q : List ℕ) → IsPosition rows p → IsPosition rows q → cmp_at p q ≡ Equal → p ≡ q) → (i : ℕ) → IsLeastAfter n (waiting_at p rows) i → IsNextWaiter rows (Some (p, n)) i
    here_is differ i f = record {
      position = p;
      there = f.there;
      later = cmp_is p p n i at f.there ∙ ap (λ o. ordering_then o (nat_cmp n i)) (same_place p p refl) ∙ less_from n i f.later;
      first = λ q m h later. by q m h later (cmp_at p q) refl;
    }
      where
        by : (q : List ℕ) (m : ℕ) → IsIn m (waiting_at q rows) → IsLaterWaiter rows (Some (p, n)) q m → (o : Ordering) → cmp_at p q ≡ o → is_gt (waiter_cmp rows p i q m) ≡ false
        by q m h later Less e = not_after p q i m f.there h (λ same. absurd (less_not_equal (sym e ∙ same_place p q same))) (inr e)
        by q m h later Equal e =
            let same = differ p q (there_at p n at) (there_at q m h) e in
            let less = less_numbers n m (ap (λ o. ordering_then o (nat_cmp n m)) (sym e) ∙ later_cases q m h later) in
            not_after p q i m f.there h (λ _. f.least m (subst (λ r. IsIn m (waiting_at r rows)) (sym same) h) less) (inl same)
        by q m h later Greater e = absurd (less_not_greater (sym (later_cases q m h later) ∙ ap (λ o. ordering_then o (nat_cmp n m)) e))
