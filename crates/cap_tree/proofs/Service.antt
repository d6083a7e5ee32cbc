-- The order of service, in a tree and its children.
use Rattle.cap_tree.proofs.Prelude.{◌≡◌, ℕ, zero, suc, ◌+◌, ◌<◌, Bool, true, false, cond, List, [], ◌∷◌, ◌++◌, length, get_or, Option, Some, None, refl, sym, ◌∙◌, ap, arith, map, subst, drop, inl, inr, ◌⊎◌, IfSome, MatchOption, option_cmp, ordering_reverse, is_gt, is_lt, Ordering, Less, Equal, Greater, IsTotalOrder, options_total, cases_lt, option_filter, on_total, tied_itself, upto, get_or_default, IsIn, in_left, in_right, in_map, holds_of, dot, Spot, along, under, below, spots, item_at, HoldsOfItem, HasPathsOnce, IsTop, items_along, children_at, child_item, is_after, is_before, IsThere, child_cmp, ComesAfter, HasNoneAfter, IsFirstAfter, that_pass}
use Rattle.cap_tree.proofs.Spots.{holds-within, item_at-spots}
use Rattle.cap_tree.proofs.Looking.{along-below, along-root_below}

module _ {T : Type 0} where
  items_under : (nm : List ℕ) (i : ℕ) (ss : List (Spot T)) → map (λ s. s.item) (map (under nm i) ss) ≡ map (λ s. s.item) ss
  items_under nm i [] = refl
  items_under nm i (s ∷ ss) = ap (λ t. s.item ∷ t) (items_under nm i ss)

  in_below : (nm : List ℕ) (i j n : ℕ) (ks : List (List (Spot T))) (d : List (Spot T)) (s : Spot T) → i ≡ j + n → n < length ks → IsIn s (get_or ks n d) → IsIn (under nm i s) (below nm j ks)
  in_below nm i j n [] d s e h m = absurd (omega arith)
  in_below nm i j zero (k ∷ ks) d s e h m =
      let same : j ≡ i = omega arith in
      subst (λ x. IsIn (under nm i s) (map (under nm x) k ++ below nm (suc x) ks)) (sym same) (in_left (under nm i s) (map (under nm i) k) (below nm (suc i) ks) (in_map (under nm i) k s m))
  in_below nm i j (suc n) (k ∷ ks) d s e h m = in_right (under nm i s) (map (under nm j) k) (below nm (suc j) ks) (in_below nm i (suc j) n ks d s (omega arith) (omega arith) m)

  -- what is in a child

  module _ (name : T → List ℕ) (item : T) (kids : List (List (Spot T))) (value : List (Spot T)) (e : spots name item kids ≡ value) where
    pub items_at_root : items_along [] value ≡ item ∷ []
    items_at_root = ap (items_along []) (sym e) ∙ ap (λ ss. item ∷ map (λ s. s.item) ss) (along-root_below (name item) 0 kids)

    module _ (i : ℕ) (kid : List (Spot T)) (within : i < length kids) (is : kid ≡ get_or kids i kid) where
      kid_is : get_or kids i [] ≡ kid
      kid_is = get_or_default kids i [] kid within ∙ sym is

      pub item_in_child : (p : List ℕ) → item_at (i ∷ p) value ≡ item_at p kid
      item_in_child p = ap (item_at (i ∷ p)) (sym e) ∙ item_at-spots name item i p kids ∙ ap (item_at p) kid_is

      pub children_in_child : (p : List ℕ) → children_at (i ∷ p) value ≡ children_at p kid
      children_in_child p = λ n j. item_in_child (p ++ j ∷ []) n

      pub top_of_child : (x : T) → IsTop name x kid → item_at (i ∷ []) value ≡ Some x
      top_of_child x t = item_in_child [] ∙ ap (item_at []) t.is

      pub items_in_child : (p : List ℕ) → items_along (i ∷ p) value ≡ item ∷ items_along p kid
      items_in_child p =
          ap (items_along (i ∷ p)) (sym e)
          ∙ ap (λ ss. item ∷ map (λ s. s.item) ss) (along-below (name item) i 0 i p kids (omega arith))
          ∙ ap (λ t. item ∷ t) (items_under (name item) i (along p (get_or kids i [])))
          ∙ ap (λ k. item ∷ items_along p k) kid_is

      in_child_spot : (s : Spot T) → IsIn s kid → IsIn (under (name item) i s) value
      in_child_spot s m = subst (IsIn (under (name item) i s)) e (inr (in_below (name item) i 0 i kids kid s (omega arith) within (subst (IsIn s) is m)))

      pub once_in_child : HasPathsOnce value → HasPathsOnce kid
      once_in_child once s t m n q = ap (drop 1) (once (under (name item) i s) (under (name item) i t) (in_child_spot s m) (in_child_spot t n) (ap (λ x. name item ++ dot ∷ x) q))

    -- children in the order

    module _ (order : T → T → Ordering) (total : IsTotalOrder order) where
      -- no two children are alike
      pub kids_apart : ((x y : T) → order x y ≡ Equal → name x ≡ name y) → HasPathsOnce value → (i j : ℕ) (kid other : List (Spot T)) (x y : T) →
          i < length kids → kid ≡ get_or kids i kid → IsTop name x kid → j < length kids → other ≡ get_or kids j other → IsTop name y other → order x y ≡ Equal → i ≡ j
      kids_apart names once i j kid other x y w k t v l u h =
          let m = in_child_spot i kid w k (record { position = []; path = name x; item = x }) (subst (IsIn _) (sym t.is) (inl refl)) in
          let n = in_child_spot j other v l (record { position = []; path = name y; item = y }) (subst (IsIn _) (sym u.is) (inl refl)) in
          ap (λ z. get_or z 0 0) (once _ _ m n (ap (λ z. name item ++ dot ∷ z) (names x y h)))

-- the child with that index, none where none is named
abbrev pub named : {T : Type 0} → (ℕ → Option T) → Option ℕ → Option T
named child None = None
named child (Some i) = child i

pub child_named : {T : Type 0} (ss : List (Spot T)) (a : Option ℕ) → child_item ss a ≡ named (children_at [] ss) a
child_named ss None = refl
child_named ss (Some i) = refl

-- the children that pass a test

module _ {T : Type 0} (test : T → Bool) (child : ℕ → Option T) where
  pub passing : (i : ℕ) (x : T) → child i ≡ Some x → test x ≡ true → that_pass test child i ≡ Some x
  passing i x e t = ap (option_filter test) e ∙ ap (λ b. cond b (Some x) None) t

  pub failing : (i : ℕ) (x : T) → child i ≡ Some x → test x ≡ false → that_pass test child i ≡ None
  failing i x e t = ap (option_filter test) e ∙ ap (λ b. cond b (Some x) None) t

  pub passing_there : (i : ℕ) → holds_of test (child i) ≡ true → that_pass test child i ≡ child i
  passing_there i h = by (child i) refl h
    where
      by : (o : Option T) → child i ≡ o → holds_of test o ≡ true → that_pass test child i ≡ child i
      by None e h = absurd (cc h)
      by (Some x) e h = passing i x e h ∙ sym e

  pub there_passing : (i : ℕ) → HoldsOfItem (λ _. Unit {0}) (that_pass test child i) → that_pass test child i ≡ child i
  there_passing i h = by (child i) h
    where
      by : (o : Option T) → HoldsOfItem (λ _. Unit {0}) (option_filter test o) → option_filter test o ≡ o
      by None h = absurd h
      by (Some x) h = kept (test x) h
        where
          kept : (b : Bool) → HoldsOfItem (λ (y : T). Unit {0}) (cond b (Some x) None) → cond b (Some x) None ≡ Some x
          kept true h = refl
          kept false h = absurd h

  pub named_passing : (a : Option ℕ) → IfSome a (λ i. holds_of test (child i) ≡ true) → named child a ≡ named (that_pass test child) a
  named_passing None h = refl
  named_passing (Some i) h = sym (passing_there i h)

-- every child passes a test that all items pass
pub all_pass : {T : Type 0} (child : ℕ → Option T) → that_pass (λ _. true) child ≡ child
all_pass {T} child = λ k i. by (child i) k
  where
    by : (o : Option T) → option_filter (λ _. true) o ≡ o
    by None = refl
    by (Some x) = refl

-- what a test of an order says

pub less_is : (o : Ordering) → is_lt o ≡ true → o ≡ Less
less_is Less h = refl
less_is Equal h = absurd (cc h)
less_is Greater h = absurd (cc h)

pub not_less : (o : Ordering) → is_lt o ≡ false → o ≡ Less → ⊥
not_less Less h e = absurd (cc h)
not_less Equal h e = absurd (cc e)
not_less Greater h e = absurd (cc e)

-- the next of the children, one after the other

module _ {T : Type 0} (order : T → T → Ordering) (total : IsTotalOrder order) (child : ℕ → Option T) (after : Option ℕ) where
  -- of the first so many
  abbrev pub IsFirstOf : ℕ → Option ℕ → Type 0
  IsFirstOf k None = (j : ℕ) → j < k → IsThere order child j → ¬ ComesAfter order child after j
  IsFirstOf k (Some n) = (n < k) × IsThere order child n × ComesAfter order child after n × ((j : ℕ) → j < k → IsThere order child j → ComesAfter order child after j → is_gt (child_cmp order child n j) ≡ false)

  order_total : IsTotalOrder (child_cmp order child)
  order_total = on_total child (options_total total)

  module _ (k : ℕ) (x : T) (is : child k ≡ Some x) where
    there : IsThere order child k
    there = subst (HoldsOfItem (λ _. Unit {0})) (sym is) tt

    comes_after : (a : Option ℕ) → is_after order x (named child a) ≡ true → ComesAfter order child a k
    comes_after None h = tt
    comes_after (Some last) h = by (child last) refl h
      where
        by : (o : Option T) → child last ≡ o → is_after order x o ≡ true → option_cmp order (child last) (child k) ≡ Less
        by None eo h = λ i. option_cmp order (eo i) (is i)
        by (Some l) eo h = (λ i. option_cmp order (eo i) (is i)) ∙ less_is (order l x) h

    comes_not : (a : Option ℕ) → is_after order x (named child a) ≡ false → ¬ ComesAfter order child a k
    comes_not None h = absurd (cc h)
    comes_not (Some last) h = by (child last) refl h
      where
        by : (o : Option T) → child last ≡ o → is_after order x o ≡ false → option_cmp order (child last) (child k) ≡ Less → ⊥
        by None eo h c = absurd (cc h)
        by (Some l) eo h c = not_less (order l x) h (sym (λ i. option_cmp order (eo i) (is i)) ∙ c)

    more_cases : (j : ℕ) → j < k + 1 → (j < k) ⊎ (j ≡ k)
    more_cases j h = elim (cases_lt j k) [ inl l ↦ inl l | inr g ↦ inr (omega arith) ]

    -- it comes before the one that was first so far
    pub taken : (next : Option ℕ) → is_after order x (named child after) ≡ true → is_before order x (named child next) ≡ true → IsFirstOf k next → IsFirstOf (k + 1) (Some k)
    taken next a b so_far = (omega arith, there, comes_after after a, λ j l t c. least next b so_far j t c (more_cases j l))
      where
        itself : (j : ℕ) → j ≡ k → is_gt (child_cmp order child k j) ≡ false
        itself j e = ap (λ i. is_gt (child_cmp order child k i)) e ∙ ap is_gt (tied_itself order_total k)

        sooner : (n : ℕ) → IsThere order child n → is_before order x (child n) ≡ true → is_gt (child_cmp order child k n) ≡ false
        sooner n t b = by (child n) refl t b
          where
            by : (o : Option T) → child n ≡ o → HoldsOfItem (λ _. Unit {0}) o → is_before order x o ≡ true → is_gt (option_cmp order (child k) (child n)) ≡ false
            by None eo t b = absurd t
            by (Some y) eo t b = ap is_gt ((λ i. option_cmp order (is i) (eo i)) ∙ less_is (order x y) b)

        least : (o : Option ℕ) → is_before order x (named child o) ≡ true → IsFirstOf k o → (j : ℕ) → IsThere order child j → ComesAfter order child after j → (j < k) ⊎ (j ≡ k) → is_gt (child_cmp order child k j) ≡ false
        least o b s j t c (inr e) = itself j e
        least None b s j t c (inl l) = absurd (s j l t c)
        least (Some n) b s j t c (inl l) = upto order_total k n j (sooner n s.1 b) (s.3 j l t c)

    -- it does not come after that one
    pub passed : (next : Option ℕ) → is_after order x (named child after) ≡ false → IsFirstOf k next → IsFirstOf (k + 1) next
    passed None a s = λ j l t c. elim (more_cases j l) [ inl m ↦ s j m t c | inr e ↦ comes_not after a (subst (ComesAfter order child after) e c) ]
    passed (Some n) a s =
        let w = s.0 in
        (omega (arith, w), s.1, s.2, λ j l t c. elim (more_cases j l) [ inl m ↦ s.3 j m t c | inr e ↦ absurd (comes_not after a (subst (ComesAfter order child after) e c)) ])

    -- it does not come before the one that was first so far
    pub kept : (next : Option ℕ) → is_before order x (named child next) ≡ false → IsFirstOf k next → IsFirstOf (k + 1) next
    kept None b s = absurd (cc b)
    kept (Some n) b s =
        let w = s.0 in
        (omega (arith, w), s.1, s.2, λ j l t c. elim (more_cases j l) [ inl m ↦ s.3 j m t c | inr e ↦ ap (λ i. is_gt (child_cmp order child n i)) e ∙ later (child n) refl s.1 b ])
      where
        turned : (o : Ordering) → is_lt o ≡ false → is_gt (ordering_reverse o) ≡ false
        turned Less h = absurd (cc h)
        turned Equal h = refl
        turned Greater h = refl

        later : (o : Option T) → child n ≡ o → HoldsOfItem (λ _. Unit {0}) o → is_before order x o ≡ false → is_gt (child_cmp order child n k) ≡ false
        later None eo t b = absurd t
        later (Some y) eo t b = ap is_gt ((λ i. option_cmp order (eo i) (is i)) ∙ total.antisymm y x) ∙ turned (order x y) b

  -- there is none of that number
  pub skipped : (k : ℕ) → child k ≡ None → (next : Option ℕ) → IsFirstOf k next → IsFirstOf (k + 1) next
  skipped k none next s = by next s
    where
      not_there : IsThere order child k → ⊥
      not_there t = subst (HoldsOfItem (λ _. Unit {0})) none t

      earlier : (j : ℕ) → j < k + 1 → IsThere order child j → j < k
      earlier j h t = elim (cases_lt j k) [ inl l ↦ l | inr g ↦ absurd (not_there (subst (IsThere order child) (let e : j ≡ k = omega (arith, h, g) in e) t)) ]

      by : (o : Option ℕ) → IsFirstOf k o → IsFirstOf (k + 1) o
      by None s = λ j l t c. s j (earlier j l t) t c
      by (Some n) s = let w = s.0 in (omega (arith, w), s.1, s.2, λ j l t c. s.3 j (earlier j l t) t c)

  -- of all
  pub of_all : (k : ℕ) (next : Option ℕ) → ((j : ℕ) → IsThere order child j → j < k) → IsFirstOf k next → MatchOption next (HasNoneAfter order child after) (IsFirstAfter order child after)
  of_all k None within s = λ j t c. s j (within j t) t c
  of_all k (Some n) within s = record { there = s.1; later = s.2; first = λ j t c. s.3 j (within j t) t c }

-- a next one so far is among those that pass
pub named_so_far : {T : Type 0} (order : T → T → Ordering) (total : IsTotalOrder order) (test : T → Bool) (child : ℕ → Option T) (after : Option ℕ) (k : ℕ) (next : Option ℕ) → IsFirstOf order total (that_pass test child) after k next →
    named child next ≡ named (that_pass test child) next
named_so_far order total test child after k None s = refl
named_so_far order total test child after k (Some n) s = sym (there_passing test child n s.1)

-- there are as many numbers as children
pub there_within : {T : Type 0} (name : T → List ℕ) (item : T) (kids : List (List (Spot T))) (value : List (Spot T)) → spots name item kids ≡ value → (test : T → Bool) (j : ℕ) → HoldsOfItem (λ _. Unit {0}) (that_pass test (children_at [] value) j) → j < length kids
there_within name item kids value e test j t =
    let there = subst (HoldsOfItem (λ _. Unit {0})) (there_passing test (children_at [] value) j t) t in
    holds-within (λ _. Unit {0}) name item j [] kids (subst (λ v. HoldsOfItem (λ _. Unit {0}) (item_at (j ∷ []) v)) (sym e) there)
