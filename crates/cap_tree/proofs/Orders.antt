-- Indexes of children that are kept in the order of service.
use denote.Ref.{Bor}
use Rattle.cap_tree.proofs.Prelude.{◌≡◌, ℕ, true, false, ◌+◌, ◌-◌, ◌<◌, ◌≤◌, Bool, List, [], ◌∷◌, length, get_or, Option, Some, None, refl, sym, ◌∙◌, ap, arith, subst, inl, inr, ◌⊎◌, IfSome, MatchOption, is_some, nat_lt, All, insert, slice_get, option_cmp, option_copied, ordering_reverse, is_gt, is_lt, Ordering, Less, Equal, Greater, IsTotalOrder, options_total, cases_lt, ltb-false, ltb-true, tied_itself, get_or_default, get_or_past, get_or-insert_at, get_or-insert_below, get_or-insert_above, length-insert, length-remove, get_or-remove_above, get_or-remove_below, remove, slice_get-get_or, slice_get_past, slice_get_read, holds_of, AreSpots, AreApart, AreSorted, ComesAfter, HasNoneAfter, HasPathsOnce, IsFirstAfter, IsOrderOf, IsOrderOfOthers, IsPlaceAfter, IsTakenOut, was_at, was_nowhere, IsThere, IsTop, child_cmp, child_item, children_at, kid_items, that_pass, Spot, HoldsOfItem, item_at, spots, is_ne, ordering_then}
use Rattle.cap_tree.proofs.Service.{less_is, not_less, passing_there, there_passing, there_within}
use Rattle.cap_tree.proofs.Spots.{item_at-spots}
use Rattle.cap_tree.proofs.Walks.{two, within}

-- two numbers are the same or not
same_or_not : (j i : ℕ) → (j ≡ i) ⊎ ¬ (j ≡ i)
same_or_not j i = elim (cases_lt j i) [
  | inl l ↦ inr (λ e. omega (arith, l, e))
  | inr g ↦ elim (cases_lt i j) [ inl l ↦ inr (λ e. omega (arith, l, e)) | inr h ↦ inl (omega (arith, g, h)) ]
]

module _ {T : Type 0} (order : T → T → Ordering) (total : IsTotalOrder order) (child : ℕ → Option T) where
  items_total : IsTotalOrder (option_cmp order)
  items_total = options_total total

  -- the middle of what is searched decides for those on one side of it

  pub later_from : (is : List ℕ) → AreSorted order child is → (x : Option T) (m : ℕ) → option_cmp order x (child (get_or is m 0)) ≡ Less → (a : ℕ) → m ≤ a → a < length is → option_cmp order x (child (get_or is a 0)) ≡ Less
  later_from is s x m less a le lt =
      elim (cases_lt m a) [
        | inl l ↦ items_total.trans x (child (get_or is m 0)) (child (get_or is a 0)) less (s.rises m a l lt)
        | inr g ↦ subst (λ k. option_cmp order x (child (get_or is k 0)) ≡ Less) (let e : m ≡ a = omega (arith, le, g) in e) less
      ]

  pub not_later_up_to : (is : List ℕ) → AreSorted order child is → (x : Option T) (m : ℕ) → m < length is → ¬ (option_cmp order x (child (get_or is m 0)) ≡ Less) → (a : ℕ) → a < m + 1 → ¬ (option_cmp order x (child (get_or is a 0)) ≡ Less)
  not_later_up_to is s x m lt not a le less =
      elim (cases_lt a m) [
        | inl l ↦ not (items_total.trans x (child (get_or is a 0)) (child (get_or is m 0)) less (s.rises a m l lt))
        | inr g ↦ not (subst (λ k. option_cmp order x (child (get_or is k 0)) ≡ Less) (let e : a ≡ m = omega (arith, le, g) in e) less)
      ]

  -- what follows a child in the indexes of all

  pub next_is : (count : ℕ) (is : List ℕ) → IsOrderOf order child count is → ((j : ℕ) → IsThere order child j → j < count) → (after : Option ℕ) (place : ℕ) → ((a : ℕ) → a < place → ¬ ComesAfter order child after (get_or is a 0)) →
      ((a : ℕ) → place ≤ a → a < length is → ComesAfter order child after (get_or is a 0)) → MatchOption (slice_get is place) (HasNoneAfter order child after) (IsFirstAfter order child after)
  next_is count is of every after place before later =
      elim (cases_lt place (length is)) [
        | inl lt ↦ subst (λ o. MatchOption o (HasNoneAfter order child after) (IsFirstAfter order child after)) (sym (slice_get-get_or is place 0 lt))
            (record {
              there = of.sorted.there place lt;
              later = later place (omega arith) lt;
              first = λ j t c.
                  let r = of.all j (every j t) t in
                  let at = r.2 in
                  subst (λ k. is_gt (child_cmp order child (get_or is place 0) k) ≡ false) at (first lt r.0 r.1 (λ l. before r.0 l (subst (ComesAfter order child after) (sym at) c)));
            })
        | inr ge ↦ subst (λ o. MatchOption o (HasNoneAfter order child after) (IsFirstAfter order child after)) (sym (slice_get_past is place ge))
            (λ j t c. let r = of.all j (every j t) t in before r.0 (let l = r.1 in omega (arith, l, ge)) (subst (ComesAfter order child after) (sym r.2) c))
      ]
    where
      first : place < length is → (a : ℕ) → a < length is → (a < place → ⊥) → is_gt (child_cmp order child (get_or is place 0) (get_or is a 0)) ≡ false
      first lt a l not =
          elim (cases_lt a place) [
            | inl sooner ↦ absurd (not sooner)
            | inr ge ↦ elim (cases_lt place a) [
              | inl more ↦ ap is_gt (of.sorted.rises place a more l)
              | inr le ↦ ap is_gt (subst (λ k. child_cmp order child (get_or is place 0) (get_or is k 0) ≡ Equal) (let e : place ≡ a = omega (arith, ge, le) in e) (tied_itself items_total (child (get_or is place 0))))
            ]
          ]

  -- one of the children is put in, or left out

  module _ (count i : ℕ) (is : List ℕ) (of : IsOrderOfOthers order child count i is) where
    pub left_as_it_is : ¬ IsThere order child i → IsOrderOf order child count is
    left_as_it_is none = record {
      sorted = of.sorted;
      early = of.early;
      all = λ j lt t. of.all j lt (λ e. none (subst (IsThere order child) e t)) t;
    }

    module _ (x : T) (at : child i ≡ Some x) (apart : AreApart order child) (place : ℕ) (put : IsPlaceAfter order child x is place) (within : i < count) where
      many : length (insert is place i) ≡ length is + 1
      many = length-insert is place i put.within

      there : IsThere order child i
      there = subst (HoldsOfItem (λ _. Unit {0})) (sym at) tt

      before : (a : ℕ) → a < place → get_or (insert is place i) a 0 ≡ get_or is a 0
      before a l = get_or-insert_below is place i 0 a l put.within

      here : (a : ℕ) → a ≡ place → get_or (insert is place i) a 0 ≡ i
      here a e = ap (λ b. get_or (insert is place i) b 0) e ∙ get_or-insert_at is place i 0 put.within

      behind : (a : ℕ) → place < a → get_or (insert is place i) a 0 ≡ get_or is (a - 1) 0
      behind a l = ap (λ b. get_or (insert is place i) b 0) (let e : a ≡ (a - 1) + 1 = omega (arith, l) in e) ∙ get_or-insert_above is place i 0 (a - 1) (omega (arith, l)) put.within

      abbrev Where : ℕ → Type 0
      Where a = (a < place) ⊎ ((a ≡ place) ⊎ (place < a))

      where_is : (a : ℕ) → Where a
      where_is a = elim (cases_lt a place) [ inl l ↦ inl l | inr g ↦ inr (elim (cases_lt place a) [ inl l ↦ inr l | inr h ↦ inl (omega (arith, g, h)) ]) ]

      -- those before the place come before it
      sooner : (a : ℕ) → a < place → child_cmp order child (get_or is a 0) i ≡ Less
      sooner a l = by (option_cmp order (child i) (child (get_or is a 0))) refl
        where
          lt : a < length is
          lt = let w = put.within in omega (arith, l, w)

          by : (o : Ordering) → option_cmp order (child i) (child (get_or is a 0)) ≡ o → child_cmp order child (get_or is a 0) i ≡ Less
          by Less e = absurd (put.before a l (subst (λ y. option_cmp order y (child (get_or is a 0)) ≡ Less) at e))
          by Equal e = absurd (of.none a lt (sym (apart i (get_or is a 0) there (of.sorted.there a lt) e)))
          by Greater e = items_total.antisymm (child (get_or is a 0)) (child i) ∙ ap ordering_reverse e

      later : (a : ℕ) → place ≤ a → a < length is → child_cmp order child i (get_or is a 0) ≡ Less
      later a le lt = subst (λ y. option_cmp order y (child (get_or is a 0)) ≡ Less) (sym at) (put.after a le lt)

      pub put_between : IsOrderOf order child count (insert is place i)
      put_between = record {
        sorted = record {
          there = λ a lt. there_cases a lt (where_is a);
          rises = λ a b lt lb. rises_cases a b lt lb (where_is a) (where_is b);
        };
        early = λ a lt. early_cases a lt (where_is a);
        all = λ j lt t. all_or j lt t (same_or_not j i);
      }
        where
          there_cases : (a : ℕ) → a < length (insert is place i) → Where a → IsThere order child (get_or (insert is place i) a 0)
          there_cases a lt (inl l) = subst (IsThere order child) (sym (before a l)) (of.sorted.there a (let w = put.within in omega (arith, l, w)))
          there_cases a lt (inr (inl e)) = subst (IsThere order child) (sym (here a e)) there
          there_cases a lt (inr (inr l)) = subst (IsThere order child) (sym (behind a l)) (of.sorted.there (a - 1) (omega (arith, lt, many, l)))

          early_cases : (a : ℕ) → a < length (insert is place i) → Where a → get_or (insert is place i) a 0 < count
          early_cases a lt (inl l) = let e = before a l in let n = of.early a (let w = put.within in omega (arith, l, w)) in omega (arith, e, n)
          early_cases a lt (inr (inl s)) = let e = here a s in omega (arith, e, within)
          early_cases a lt (inr (inr l)) = let e = behind a l in let n = of.early (a - 1) (omega (arith, lt, many, l)) in omega (arith, e, n)

          rises_cases : (a b : ℕ) → a < b → b < length (insert is place i) → Where a → Where b → child_cmp order child (get_or (insert is place i) a 0) (get_or (insert is place i) b 0) ≡ Less
          rises_cases a b lt lb (inl l) (inl m) = (λ k. child_cmp order child (before a l k) (before b m k)) ∙ of.sorted.rises a b lt (let w = put.within in omega (arith, m, w))
          rises_cases a b lt lb (inl l) (inr (inl e)) = (λ k. child_cmp order child (before a l k) (here b e k)) ∙ sooner a l
          rises_cases a b lt lb (inl l) (inr (inr m)) = (λ k. child_cmp order child (before a l k) (behind b m k)) ∙ of.sorted.rises a (b - 1) (omega (arith, l, m)) (omega (arith, lb, many, m))
          rises_cases a b lt lb (inr (inl e)) (inr (inr m)) = (λ k. child_cmp order child (here a e k) (behind b m k)) ∙ later (b - 1) (omega (arith, m)) (omega (arith, lb, many, m))
          rises_cases a b lt lb (inr (inr l)) (inr (inr m)) = (λ k. child_cmp order child (behind a l k) (behind b m k)) ∙ of.sorted.rises (a - 1) (b - 1) (omega (arith, lt, l, m)) (omega (arith, lb, many, m))
          rises_cases a b lt lb (inr (inl e)) (inl m) = absurd (omega (arith, lt, e, m))
          rises_cases a b lt lb (inr (inl e)) (inr (inl f)) = absurd (omega (arith, lt, e, f))
          rises_cases a b lt lb (inr (inr l)) (inl m) = absurd (omega (arith, lt, l, m))
          rises_cases a b lt lb (inr (inr l)) (inr (inl f)) = absurd (omega (arith, lt, l, f))

          all_cases : (j a : ℕ) → a < length is → get_or is a 0 ≡ j → (b : ℕ) × (b < length (insert is place i)) × (get_or (insert is place i) b 0 ≡ j)
          all_cases j a lt e = elim (cases_lt a place) [
            | inl l ↦ (a, omega (arith, lt, many), before a l ∙ e)
            | inr g ↦ (a + 1, omega (arith, lt, many), get_or-insert_above is place i 0 a g put.within ∙ e)
          ]

          all_or : (j : ℕ) → j < count → IsThere order child j → (j ≡ i) ⊎ ¬ (j ≡ i) → (b : ℕ) × (b < length (insert is place i)) × (get_or (insert is place i) b 0 ≡ j)
          all_or j lt t (inl e) = (place, let w = put.within in omega (arith, many, w), here place refl ∙ sym e)
          all_or j lt t (inr not) = let r = of.all j lt not t in all_cases j r.0 r.1 r.2

  -- the children that are in order are the others of one more
  pub others_of : (k : ℕ) (is : List ℕ) → IsOrderOf order child k is → IsOrderOfOthers order child (k + 1) k is
  others_of k is of = record {
    sorted = of.sorted;
    early = λ a lt. let e = of.early a lt in omega (arith, e);
    none = λ a lt e. let n = of.early a lt in omega (arith, n, e);
    all = λ j lt not t. elim (cases_lt j k) [ inl l ↦ of.all j l t | inr g ↦ absurd (not (omega (arith, lt, g))) ];
  }

  -- one child is changed, and its index taken out

  module _ (before : ℕ → Option T) (count i : ℕ) (old : List ℕ) (was : IsOrderOf order before count old) (same : (j : ℕ) → ¬ (j ≡ i) → before j ≡ child j) where
    there_yet : (j : ℕ) → ¬ (j ≡ i) → IsThere order before j → IsThere order child j
    there_yet j not t = subst (HoldsOfItem (λ _. Unit {0})) (same j not) t

    there_before : (j : ℕ) → ¬ (j ≡ i) → IsThere order child j → IsThere order before j
    there_before j not t = subst (HoldsOfItem (λ _. Unit {0})) (sym (same j not)) t

    less_yet : (j k : ℕ) → ¬ (j ≡ i) → ¬ (k ≡ i) → child_cmp order before j k ≡ Less → child_cmp order child j k ≡ Less
    less_yet j k nj nk l = (λ h. option_cmp order (sym (same j nj) h) (sym (same k nk) h)) ∙ l

    others_in : ((a : ℕ) → a < length old → ¬ (get_or old a 0 ≡ i)) → IsOrderOfOthers order child count i old
    others_in none = record {
      sorted = record {
        there = λ a lt. there_yet (get_or old a 0) (none a lt) (was.sorted.there a lt);
        rises = λ a b lt lb. less_yet (get_or old a 0) (get_or old b 0) (none a (omega (arith, lt, lb))) (none b lb) (was.sorted.rises a b lt lb);
      };
      early = was.early;
      none = none;
      all = λ j lt not t. was.all j lt (there_before j not t);
    }

    module _ (place : ℕ) (within : place < length old) (at : get_or old place 0 ≡ i) where
      fewer : length (remove old place) + 1 ≡ length old
      fewer = length-remove old place within

      no_other : (b : ℕ) → b < length old → ¬ (b ≡ place) → ¬ (get_or old b 0 ≡ i)
      no_other b lt not e = elim (cases_lt b place) [
        | inl l ↦ twice (was.sorted.rises b place l within) (e ∙ sym at)
        | inr g ↦ elim (cases_lt place b) [ inl l ↦ twice (was.sorted.rises place b l lt) (at ∙ sym e) | inr h ↦ not (omega (arith, g, h)) ]
      ]
        where
          twice : {j k : ℕ} → child_cmp order before j k ≡ Less → j ≡ k → ⊥
          twice {j} {k} less e = let t = tied_itself items_total (before k) in let l = subst (λ h. child_cmp order before h k ≡ Less) e less in cc (t, l)

      -- where an index stood of those that are left
      record Stood (a : ℕ) : Type 0 where
        b : ℕ
        lt : b < length old
        other : ¬ (b ≡ place)
        is : get_or (remove old place) a 0 ≡ get_or old b 0
        from : ((a < place) × (b ≡ a)) ⊎ ((place ≤ a) × (b ≡ a + 1))

      stood : (a : ℕ) → a < length (remove old place) → Stood a
      stood a lt = elim (cases_lt a place) [
        | inl l ↦ record { b = a; lt = omega (arith, l, within); other = λ e. omega (arith, l, e); is = get_or-remove_below old place 0 a l within; from = inl (l, refl) }
        | inr g ↦ record { b = a + 1; lt = omega (arith, lt, fewer); other = λ e. omega (arith, g, e); is = get_or-remove_above old place 0 a g within; from = inr (g, refl) }
      ]

      later_stood : (a c : ℕ) → a < c → (s : Stood a) (t : Stood c) → s.b < t.b
      later_stood a c lt s t = elim s.from [
        | inl f ↦ elim t.from [ inl h ↦ (let x = f.1 in let y = h.1 in omega (arith, lt, x, y)) | inr h ↦ (let x = f.1 in let y = h.1 in omega (arith, lt, x, y)) ]
        | inr f ↦ elim t.from [ inl h ↦ (let w = f.0 in let z = h.0 in absurd (omega (arith, lt, w, z))) | inr h ↦ (let x = f.1 in let y = h.1 in omega (arith, lt, x, y)) ]
      ]

      others_left : IsOrderOfOthers order child count i (remove old place)
      others_left = record {
        sorted = record {
          there = λ a lt. let s = stood a lt in subst (IsThere order child) (sym s.is) (there_yet (get_or old s.b 0) (no_other s.b s.lt s.other) (was.sorted.there s.b s.lt));
          rises = λ a c lt lc.
              let s = stood a (omega (arith, lt, lc)) in
              let t = stood c lc in
              (λ h. child_cmp order child (s.is h) (t.is h)) ∙ less_yet (get_or old s.b 0) (get_or old t.b 0) (no_other s.b s.lt s.other) (no_other t.b t.lt t.other) (was.sorted.rises s.b t.b (later_stood a c lt s t) t.lt);
        };
        early = λ a lt. let s = stood a lt in let e = was.early s.b s.lt in let h = s.is in omega (arith, e, h);
        none = λ a lt e. let s = stood a lt in no_other s.b s.lt s.other (sym s.is ∙ e);
        all = λ j lt not t. let r = was.all j lt (there_before j not t) in where_now j not r.0 r.1 r.2;
      }
        where
          where_now : (j : ℕ) → ¬ (j ≡ i) → (b : ℕ) → b < length old → get_or old b 0 ≡ j → (a : ℕ) × (a < length (remove old place)) × (get_or (remove old place) a 0 ≡ j)
          where_now j not b lt e = elim (cases_lt b place) [
            | inl l ↦ (b, omega (arith, l, within, fewer), get_or-remove_below old place 0 b l within ∙ e)
            | inr g ↦ elim (cases_lt place b) [
              | inl l ↦ (b - 1, omega (arith, l, lt, fewer), get_or-remove_above old place 0 (b - 1) (omega (arith, l)) within ∙ ap (λ k. get_or old k 0) (let f : (b - 1) + 1 ≡ b = omega (arith, l) in f) ∙ e)
              | inr h ↦ absurd (not (sym e ∙ ap (λ k. get_or old k 0) (let f : b ≡ place = omega (arith, g, h) in f) ∙ at))
            ]
          ]

    pub taken_out : (new : List ℕ) → IsTakenOut i old new → IsOrderOfOthers order child count i new
    taken_out new (was_at place within at is) = subst (IsOrderOfOthers order child count i) (sym is) (others_left place within at)
    taken_out new (was_nowhere none is) = subst (IsOrderOfOthers order child count i) (sym is) (others_in none)

-- the children of an item, by their indexes

pub kid_item : {T : Type 0} (name : T → List ℕ) (kids : List (List (Spot T))) (i : ℕ) (kid : List (Spot T)) (x : T) → i < length kids → kid ≡ get_or kids i kid → IsTop name x kid → kid_items kids i ≡ Some x
kid_item name kids i kid x lt at top = ap (item_at []) (get_or_default kids i [] kid lt ∙ sym at ∙ top.is)

module _ {T : Type 0} (name : T → List ℕ) (item : T) (kids : List (List (Spot T))) (value : List (Spot T)) (e : spots name item kids ≡ value) where
  pub kids_are : children_at [] value ≡ kid_items kids
  kids_are = λ k i. (ap (item_at (i ∷ [])) (sym e) ∙ item_at-spots name item i [] kids) k

  pub kids_differ : (order : T → T → Ordering) → IsTotalOrder order → ((x y : T) → order x y ≡ Equal → name x ≡ name y) → All (AreSpots name) kids → HasPathsOnce value → AreApart order (kid_items kids)
  kids_differ order total names trees once = subst (AreApart order) kids_are apart
    where
      apart : AreApart order (children_at [] value)
      apart i j ti tj same = elim (two order total name names item kids value e trees once i j (within order total name names item kids value e trees once i [] ti) (within order total name names item kids value e trees once j [] tj)) [
        | inl one ↦ one
        | inr other ↦ elim other [
          | inl less ↦ absurd (cc (less, same))
          | inr less ↦ absurd (let t = (options_total total).antisymm (children_at [] value i) (children_at [] value j) ∙ ap ordering_reverse less in cc (t, same))
        ]
      ]

-- the place of what comes after an item, if there is one
abbrev pub IsPlaceOf : {T : Type 0} → (T → T → Ordering) → (ℕ → Option T) → List ℕ → Option T → ℕ → Type 0
IsPlaceOf order child is None place = place ≡ 0
IsPlaceOf order child is (Some x) place = IsPlaceAfter order child x is place

-- what a slice gives at an index
pub got : (xs : List ℕ) (i : ℕ) (r : Option (Bor ℕ)) → (is_some r ≡ nat_lt i (length xs)) × IfSome r (λ x. x.now ≡ get_or xs i x.now) → option_copied r ≡ slice_get xs i
got xs i None h = sym (slice_get_past xs i (ltb-false i (length xs) (sym h.0)))
got xs i (Some x) h = sym (slice_get_read xs (length xs) i x.now refl (ltb-true i (length xs) (sym h.0)) h.1)

-- the child in the middle of those that are searched

module _ {T : Type 0} (order : T → T → Ordering) (total : IsTotalOrder order) (name : T → List ℕ) (test : T → Bool) (kids : List (List (Spot T))) (is : List ℕ) (s : AreSorted order (that_pass test (kid_items kids)) is) (m : ℕ) (lt : m < length is) where
  passes_at : that_pass test (kid_items kids) (get_or is m 0) ≡ kid_items kids (get_or is m 0)
  passes_at = there_passing test (kid_items kids) (get_or is m 0) (s.there m lt)

  pub entry_within : get_or is m 0 < length kids
  entry_within = elim (cases_lt (get_or is m 0) (length kids)) [
    | inl l ↦ l
    | inr g ↦ absurd (subst (HoldsOfItem (λ _. Unit {0})) (passes_at ∙ ap (item_at []) (get_or_past kids (get_or is m 0) [] g)) (s.there m lt))
  ]

  module _ (item x : T) (kid : List (Spot T)) (at : kid ≡ get_or kids (get_or is m 0) kid) (top : IsTop name x kid) where
    cmp_entry : option_cmp order (Some item) (that_pass test (kid_items kids) (get_or is m 0)) ≡ order item x
    cmp_entry = ap (option_cmp order (Some item)) (passes_at ∙ kid_item name kids (get_or is m 0) kid x entry_within at top)

    pub later_than_middle : is_lt (order item x) ≡ true → (a : ℕ) → m ≤ a → a < length is → option_cmp order (Some item) (that_pass test (kid_items kids) (get_or is a 0)) ≡ Less
    later_than_middle h = later_from order total (that_pass test (kid_items kids)) is s (Some item) m (cmp_entry ∙ less_is (order item x) h)

    pub not_later_than_middle : is_lt (order item x) ≡ false → (a : ℕ) → a < m + 1 → ¬ (option_cmp order (Some item) (that_pass test (kid_items kids) (get_or is a 0)) ≡ Less)
    not_later_than_middle h = not_later_up_to order total (that_pass test (kid_items kids)) is s (Some item) m lt (λ e. not_less (order item x) h (sym cmp_entry ∙ e))

-- what follows a child of those that pass a test, or is their first
module _ {T : Type 0} (name : T → List ℕ) (item : T) (kids : List (List (Spot T))) (value : List (Spot T)) (e : spots name item kids ≡ value) (order : T → T → Ordering) (total : IsTotalOrder order) (test : T → Bool) (is : List ℕ) (of : IsOrderOf order (that_pass test (kid_items kids)) (length kids) is) where
  order_of : IsOrderOf order (that_pass test (children_at [] value)) (length kids) is
  order_of = subst (λ child. IsOrderOf order (that_pass test child) (length kids) is) (sym (kids_are name item kids value e)) of

  next_at : (after : Option ℕ) (place : ℕ) → ((a : ℕ) → a < place → ¬ ComesAfter order (that_pass test (children_at [] value)) after (get_or is a 0)) → ((a : ℕ) → place ≤ a → a < length is → ComesAfter order (that_pass test (children_at [] value)) after (get_or is a 0)) →
      MatchOption (slice_get is place) (HasNoneAfter order (that_pass test (children_at [] value)) after) (IsFirstAfter order (that_pass test (children_at [] value)) after)
  next_at = next_is order total (that_pass test (children_at [] value)) (length kids) is order_of (λ j t. there_within name item kids value e test j t)

  pub next_of_all : (after : Option ℕ) (last : Option T) → last ≡ child_item value after → IfSome after (λ i. holds_of test (item_at (i ∷ []) value) ≡ true) → (place : ℕ) → IsPlaceOf order (that_pass test (kid_items kids)) is last place →
      MatchOption (slice_get is place) (HasNoneAfter order (that_pass test (children_at [] value)) after) (IsFirstAfter order (that_pass test (children_at [] value)) after)
  next_of_all None None h w place z = next_at None place (λ a l. absurd (omega (arith, l, z))) (λ a le lt. tt)
  next_of_all None (Some x) h w place p = absurd (cc h)
  next_of_all (Some i) None h w place z = absurd (let n = ap (holds_of test) h in cc (n, w))
  next_of_all (Some i) (Some x) h w place p =
      next_at (Some i) place (λ a l c. put.before a l (subst (λ o. option_cmp order o (that_pass test (children_at [] value) (get_or is a 0)) ≡ Less) at c))
      (λ a le lt. subst (λ o. option_cmp order o (that_pass test (children_at [] value) (get_or is a 0)) ≡ Less) (sym at) (put.after a le lt))
    where
      at : that_pass test (children_at [] value) i ≡ Some x
      at = passing_there test (children_at [] value) i w ∙ sym h

      put : IsPlaceAfter order (that_pass test (children_at [] value)) x is place
      put = subst (λ child. IsPlaceAfter order (that_pass test child) x is place) (sym (kids_are name item kids value e)) p

-- children that differ do so where they pass a test
pub passing_differ : {T : Type 0} (order : T → T → Ordering) (test : T → Bool) (child : ℕ → Option T) → AreApart order child → AreApart order (that_pass test child)
passing_differ order test child apart i j ti tj same =
    let p = there_passing test child i ti in
    let q = there_passing test child j tj in
    apart i j (subst (HoldsOfItem (λ _. Unit {0})) p ti) (subst (HoldsOfItem (λ _. Unit {0})) q tj) (sym (λ k. option_cmp order (p k) (q k)) ∙ same)

-- where two orders follow each other, the first decides if it tells them apart, and the second otherwise
pub told_apart : (a b : Ordering) → is_ne a ≡ true → a ≡ ordering_then a b
told_apart Less b e = refl
told_apart Equal b e = absurd (cc e)
told_apart Greater b e = refl

pub alike : (a b : Ordering) → is_ne a ≡ false → b ≡ ordering_then a b
alike Less b e = absurd (cc e)
alike Equal b e = refl
alike Greater b e = absurd (cc e)

pub none_in_order : {T : Type 0} (order : T → T → Ordering) (child : ℕ → Option T) → IsOrderOf order child 0 []
none_in_order order child = record {
  sorted = record { there = λ a w. absurd (omega (arith, w)); rises = λ a b l w. absurd (omega (arith, w)) };
  early = λ a w. absurd (omega (arith, w));
  all = λ j w. absurd (omega (arith, w));
}
