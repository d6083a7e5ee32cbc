-- One more waits in a tree that a snapshot keeps: its marks and links.
use mir.Syntax.{w32}
use mir.Val.{Fits}
use Rattle.cap_copy.proofs.Prelude.{◌≡◌, ℕ, zero, suc, ◌+◌, ◌-◌, ◌<◌, ◌≤◌, Bool, true, false, cond, List, [], ◌∷◌, ◌++◌, ◌≢◌, length, get_or, set, map, drop, Option, Some, None, refl, sym, ◌∙◌, ap, subst, arith, inl, inr, ◌⊎◌, ◌==◌, ◌&&◌, if◌then◌else◌, bytes_eq, option_map, slice_get, option_map_or, get_or-append_seam, cases_eq, cases_lt, eq-eqb, eqb-true, ne_eqb, get_or_append_left, get_or-set_other, get_or-set_same, length-append, length-set, slice_get_within, bytes_eq-Decides, holds_of, Queue, Row, AreRows, IsFirstFrom, IsLast, IsSeenTree, SeenQueue, not_waiting, rows_seen, waiting_at, waiting_below, Spot, HoldsOfItem, IsPosition, change_along, item_at, leads_to, made_of, AreMarked, mark_at}
use Rattle.cap_copy.proofs.Copies.{change-made, item_at-made, made-back}
use Rattle.cap_tree.proofs.RowPaths.{same_position}

-- a position leads to another with which it begins

leads_on : (p q : List ℕ) → leads_to p (p ++ q) ≡ true
leads_on [] q = refl
leads_on (x ∷ p) q = ap (λ b. b && leads_to p (p ++ q)) (eq-eqb x x refl) ∙ leads_on p q

leads_rest : (p q : List ℕ) → leads_to p q ≡ true → p ++ drop (length p) q ≡ q
leads_rest [] q h = refl
leads_rest (x ∷ p) [] h = absurd (cc h)
leads_rest (x ∷ p) (y ∷ q) h = by (x == y) refl h (leads_rest p q)
  where
    by : (b : Bool) → (x == y) ≡ b → b && leads_to p q ≡ true → (leads_to p q ≡ true → p ++ drop (length p) q ≡ q) → x ∷ p ++ drop (length p) q ≡ y ∷ q
    by true e h r = let s = eqb-true x y e in (λ i. s i ∷ r h i)
    by false e h r = absurd (cc h)

number_itself : (n other : ℕ) → 1 ≤ n → (if n == 0 then other else n) ≡ n
number_itself n other some = ap (λ b. if b then other else n) (ne_eqb n 0 (λ e. absurd (omega (arith, e, some))))

same_or_not : (p q : List ℕ) → (p ≡ q) ⊎ (p ≡ q → ⊥)
same_or_not p q = by (bytes_eq p q) refl
  where
    by : (b : Bool) → bytes_eq p q ≡ b → (p ≡ q) ⊎ (p ≡ q → ⊥)
    by true h = inl ((bytes_eq-Decides p q).0 h)
    by false h = inr (λ e. let t = (bytes_eq-Decides p q).1 e in cc (h, t))

-- an item at a position after a change along a way

module _ {T : Type 0} (above at : T → T) (way : List ℕ) where
  abbrev changed : List ℕ → T → T
  changed p x = cond (bytes_eq p way) (at x) (cond (leads_to p way) (above x) x)

  item_at-changed : (p : List ℕ) (ss : List (Spot T)) → item_at p (map (change_along above at way) ss) ≡ option_map (changed p) (item_at p ss)
  item_at-changed p [] = refl
  item_at-changed p (s ∷ ss) = ap (λ q. cond (bytes_eq q p) (Some (change_along above at way s).item) (item_at p (map (change_along above at way) ss))) position ∙ by (bytes_eq s.position p) refl (item_at-changed p ss)
    where
      at_cases : (c d : Bool) → (cond c (record s { item = at s.item }) (cond d (record s { item = above s.item }) s)).position ≡ s.position
      at_cases true d = refl
      at_cases false true = refl
      at_cases false false = refl

      position : (change_along above at way s).position ≡ s.position
      position = at_cases (bytes_eq s.position way) (leads_to s.position way)

      item_cases : (c d : Bool) → (cond c (record s { item = at s.item }) (cond d (record s { item = above s.item }) s)).item ≡ cond c (at s.item) (cond d (above s.item) s.item)
      item_cases true d = refl
      item_cases false true = refl
      item_cases false false = refl

      by : (b : Bool) → bytes_eq s.position p ≡ b → item_at p (map (change_along above at way) ss) ≡ option_map (changed p) (item_at p ss) →
          cond b (Some (change_along above at way s).item) (item_at p (map (change_along above at way) ss)) ≡ option_map (changed p) (cond b (Some s.item) (item_at p ss))
      by true e r = ap Some (item_cases (bytes_eq s.position way) (leads_to s.position way) ∙ ap (λ q. changed q s.item) ((bytes_eq-Decides s.position p).0 e))
      by false e r = r

  position_kept : (p : List ℕ) (ss : List (Spot T)) → IsPosition (map (change_along above at way) ss) p → IsPosition ss p
  position_kept p ss h = by (item_at p ss) (subst (HoldsOfItem (λ _. Unit {0})) (item_at-changed p ss) h)
    where
      by : (o : Option T) → HoldsOfItem (λ _. Unit {0}) (option_map (changed p) o) → HoldsOfItem (λ _. Unit {0}) o
      by None h = h
      by (Some x) h = tt

  module _ (ss : List (Spot T)) where
    -- a number that the change leaves above the way's end
    other_number : (number : T → ℕ) → ((x : T) → number (above x) ≡ number x) → (p : List ℕ) → (p ≡ way → ⊥) → mark_at number p (map (change_along above at way) ss) ≡ mark_at number p ss
    other_number number keeps p apart = ap (λ o. option_map_or number o 0) (item_at-changed p ss) ∙ by (item_at p ss)
      where
        ends : bytes_eq p way ≡ false
        ends = cases (bytes_eq p way) refl
          where
            cases : (b : Bool) → bytes_eq p way ≡ b → b ≡ false
            cases true h = absurd (apart ((bytes_eq-Decides p way).0 h))
            cases false h = refl

        kept : (x : T) (b : Bool) → number (cond b (above x) x) ≡ number x
        kept x true = keeps x
        kept x false = refl

        by : (o : Option T) → option_map_or number (option_map (changed p) o) 0 ≡ option_map_or number o 0
        by None = refl
        by (Some x) = ap (λ b. number (cond b (at x) (cond (leads_to p way) (above x) x))) ends ∙ kept x (leads_to p way)

    own_item : item_at way (map (change_along above at way) ss) ≡ option_map at (item_at way ss)
    own_item = item_at-changed way ss ∙ ap (λ b. option_map (λ x. cond b (at x) (cond (leads_to way way) (above x) x)) (item_at way ss)) ((bytes_eq-Decides way way).1 refl)

    -- what the change leaves off the way
    off_way : (p : List ℕ) → leads_to p way ≡ false → item_at p (map (change_along above at way) ss) ≡ item_at p ss
    off_way p h = item_at-changed p ss ∙ ap (λ b. option_map (λ x. cond (bytes_eq p way) (at x) (cond b (above x) x)) (item_at p ss)) h ∙ ap (λ b. option_map (λ x. cond b (at x) x) (item_at p ss)) ends ∙ by (item_at p ss)
      where
        ends : bytes_eq p way ≡ false
        ends = same_position p way ∙ ap (λ b. b && leads_to way p) h

        by : (o : Option T) → option_map (λ x. x) o ≡ o
        by None = refl
        by (Some x) = refl

    -- and what it makes true on the way
    on_way : (test : T → Bool) → ((x : T) → test (above x) ≡ true) → ((x : T) → test (at x) ≡ true) → (p : List ℕ) → leads_to p way ≡ true → IsPosition ss p → holds_of test (item_at p (map (change_along above at way) ss)) ≡ true
    on_way test a b p h there = ap (holds_of test) (item_at-changed p ss ∙ ap (λ c. option_map (λ x. cond (bytes_eq p way) (at x) (cond c (above x) x)) (item_at p ss)) h) ∙ by (item_at p ss) there
      where
        made : (x : T) (c : Bool) → test (cond c (at x) (above x)) ≡ true
        made x true = b x
        made x false = a x

        by : (o : Option T) → HoldsOfItem (λ _. Unit {0}) o → holds_of test (option_map (λ x. cond (bytes_eq p way) (at x) (above x)) o) ≡ true
        by None there = absurd there
        by (Some x) there = made x (bytes_eq p way)

-- one more at the end of a list

got_before : {X : Type 0} (xs : List X) (y : X) (j : ℕ) (x : X) → slice_get xs j ≡ Some x → slice_get (xs ++ y ∷ []) j ≡ Some x
got_before [] y j x h = absurd (cc h)
got_before (z ∷ xs) y zero x h = h
got_before (z ∷ xs) y (suc j) x h = got_before xs y j x h

got_last : {X : Type 0} (xs : List X) (y : X) → slice_get (xs ++ y ∷ []) (length xs) ≡ Some y
got_last [] y = refl
got_last (z ∷ xs) y = got_last xs y

got_either : {X : Type 0} (xs : List X) (y : X) (j : ℕ) (x : X) → slice_get (xs ++ y ∷ []) j ≡ Some x → (slice_get xs j ≡ Some x) ⊎ ((j ≡ length xs) × (y ≡ x))
got_either [] y zero x h = inr (refl, cc h)
got_either [] y (suc j) x h = absurd (cc h)
got_either (z ∷ xs) y zero x h = inl h
got_either (z ∷ xs) y (suc j) x h = elim (got_either xs y j x h) [ inl e ↦ inl e | inr r ↦ inr (let e = r.0 in omega (arith, e), r.1) ]

-- marks after one more waits at the end

module _ (waiting : List (List ℕ)) (way : List ℕ) where
  abbrev longer : List (List ℕ)
  longer = waiting ++ way ∷ []

  module _ (p : List ℕ) (apart : p ≡ way → ⊥) where
    first_elsewhere : (from mark : ℕ) → IsFirstFrom waiting p from mark → IsFirstFrom longer p from mark
    first_elsewhere from mark is = record {
      least = λ j le h. elim (got_either waiting way j p h) [ inl e ↦ is.least j le e | inr r ↦ absurd (apart (sym (r.1))) ];
      there = λ some. let r = is.there some in (r.0, got_before waiting way (mark - 1) p (r.1));
    }

    last_elsewhere : (mark : ℕ) → IsLast waiting p mark → IsLast longer p mark
    last_elsewhere mark is = record {
      most = λ j h. elim (got_either waiting way j p h) [ inl e ↦ is.most j e | inr r ↦ absurd (apart (sym (r.1))) ];
      there = λ some. got_before waiting way (mark - 1) p (is.there some);
    }

  got_new : slice_get longer (length waiting + 1 - 1) ≡ Some way
  got_new = let e : length waiting + 1 - 1 ≡ length waiting = omega arith in ap (slice_get longer) e ∙ got_last waiting way

  first_here : (from : ℕ) → from ≤ length waiting → IsFirstFrom waiting way from 0 → IsFirstFrom longer way from (length waiting + 1)
  first_here from le is = record {
    least = λ j l h. elim (got_either waiting way j way h) [ inl e ↦ absurd (let n = (is.least j l e).0 in omega (arith, n)) | inr r ↦ (omega arith, let e = r.0 in omega (arith, e)) ];
    there = λ some. (omega (arith, le), got_new);
  }

  first_still : (from mark : ℕ) → 1 ≤ mark → IsFirstFrom waiting way from mark → IsFirstFrom longer way from mark
  first_still from mark some is =
      let r = is.there some in
      let within = slice_get_within waiting (mark - 1) way (r.1) in
      record {
        least = λ j l h. elim (got_either waiting way j way h) [ inl e ↦ is.least j l e | inr s ↦ (some, let e = s.0 in omega (arith, e, within)) ];
        there = λ _. (r.0, got_before waiting way (mark - 1) way (r.1));
      }

  last_here : (mark : ℕ) → mark ≡ length waiting + 1 → IsLast longer way mark
  last_here mark e = record {
    most = λ j h. elim (got_either waiting way j way h) [ inl s ↦ (let w = slice_get_within waiting j way s in omega (arith, w, e)) | inr r ↦ (let s = r.0 in omega (arith, s, e)) ];
    there = λ some. ap (λ n. slice_get longer (n - 1)) e ∙ got_new;
  }

  none_later : (from : ℕ) → length waiting < from → IsFirstFrom longer way from 0
  none_later from lt = record {
    least = λ j l h. absurd (elim (got_either waiting way j way h) [ inl e ↦ (let w = slice_get_within waiting j way e in omega (arith, w, l, lt)) | inr r ↦ (let s = r.0 in omega (arith, s, l, lt)) ]);
    there = λ some. absurd (omega (arith, some));
  }

-- the mark of the last one at a position leads to a link
pub last_within : (ss : List (Spot SeenQueue)) (waiting : List (List ℕ)) (links : List ℕ) → IsSeenTree ss waiting links → (way : List ℕ) → mark_at (λ q. q.last) way ss ≤ length links
last_within ss waiting links tree way = by (mark_at (λ q. q.last) way ss) (tree.lasts way)
  where
    by : (n : ℕ) → IsLast waiting way n → n ≤ length links
    by zero is = omega arith
    by (suc n) is = let w = slice_get_within waiting (suc n - 1) way (is.there (omega arith)) in let m = tree.many in omega (arith, w, m)

-- a mark is 1 + an index, and fits where few wait
pub index_of_mark : (mark most : ℕ) → mark ≢ 0 → mark ≤ most → mark - 1 < most
index_of_mark mark most some few = omega arith

pub mark_fits : (count waiting : ℕ) → count ≡ waiting → waiting < 4294967295 → Fits w32 (count + 1)
mark_fits count waiting is few = omega arith

-- the links, where the one of the last so far leads on
abbrev pub links_after : List ℕ → ℕ → ℕ → List ℕ
links_after links mark zero = links
links_after links mark (suc n) = set links n mark

pub links_at : (links : List ℕ) (mark n : ℕ) → 1 ≤ n → links_after links mark n ≡ set links (n - 1) mark
links_at links mark zero some = absurd (omega arith)
links_at links mark (suc n) some = let e : n ≡ suc n - 1 = omega arith in ap (λ k. set links k mark) e

-- the queues are as they were
pub same_rows : (mark : ℕ) (way : List ℕ) (ss new : List (Spot SeenQueue)) → new ≡ map (change_along waiting_below (waiting_at mark) way) ss → rows_seen new ≡ rows_seen ss
same_rows mark way ss new e = ap rows_seen e ∙ change-made (λ (q : SeenQueue). q.queue) waiting_below (waiting_at mark) (λ _. refl) (λ _. refl) way ss

-- the tree after one more waits at a position

module _ (ss : List (Spot SeenQueue)) (waiting : List (List ℕ)) (links : List ℕ) (tree : IsSeenTree ss waiting links) (way : List ℕ) (there : IsPosition ss way) (mark : ℕ) (mark_is : mark ≡ length waiting + 1) where
  abbrev pub marked_more : List (Spot SeenQueue)
  marked_more = map (change_along waiting_below (waiting_at mark) way) ss

  abbrev last : ℕ
  last = mark_at (λ q. q.last) way ss

  first_way : mark_at (λ q. q.first) way marked_more ≡ (if mark_at (λ q. q.first) way ss == 0 then mark else mark_at (λ q. q.first) way ss)
  first_way = ap (λ o. option_map_or (λ (q : SeenQueue). q.first) o 0) (own_item waiting_below (waiting_at mark) way ss) ∙ by (item_at way ss) there
    where
      by : (o : Option SeenQueue) → HoldsOfItem (λ _. Unit {0}) o →
          option_map_or (λ (q : SeenQueue). q.first) (option_map (waiting_at mark) o) 0 ≡ (if option_map_or (λ (q : SeenQueue). q.first) o 0 == 0 then mark else option_map_or (λ (q : SeenQueue). q.first) o 0)
      by None h = absurd h
      by (Some q) h = refl

  last_way : mark_at (λ q. q.last) way marked_more ≡ mark
  last_way = ap (λ o. option_map_or (λ (q : SeenQueue). q.last) o 0) (own_item waiting_below (waiting_at mark) way ss) ∙ by (item_at way ss) there
    where
      by : (o : Option SeenQueue) → HoldsOfItem (λ _. Unit {0}) o → option_map_or (λ (q : SeenQueue). q.last) (option_map (waiting_at mark) o) 0 ≡ mark
      by None h = absurd h
      by (Some q) h = refl

  firsts_more : (p : List ℕ) → IsFirstFrom (waiting ++ way ∷ []) p 0 (mark_at (λ q. q.first) p marked_more)
  firsts_more p = elim (same_or_not p way) [
    | inl same ↦
        subst (λ q. IsFirstFrom (waiting ++ way ∷ []) q 0 (mark_at (λ q. q.first) q marked_more)) (sym same)
        (subst (IsFirstFrom (waiting ++ way ∷ []) way 0) (sym first_way) (by (mark_at (λ q. q.first) way ss) (tree.firsts way)))
    | inr apart ↦ subst (IsFirstFrom (waiting ++ way ∷ []) p 0) (sym (other_number waiting_below (waiting_at mark) way ss (λ q. q.first) (λ _. refl) p apart)) (first_elsewhere waiting way p apart 0 _ (tree.firsts p))
  ]
    where
      by : (n : ℕ) → IsFirstFrom waiting way 0 n → IsFirstFrom (waiting ++ way ∷ []) way 0 (if n == 0 then mark else n)
      by zero h = subst (IsFirstFrom (waiting ++ way ∷ []) way 0) (sym mark_is) (first_here waiting way 0 (omega arith) h)
      by (suc n) h = subst (IsFirstFrom (waiting ++ way ∷ []) way 0) (sym (number_itself (suc n) mark (omega arith))) (first_still waiting way 0 (suc n) (omega arith) h)

  lasts_more : (p : List ℕ) → IsLast (waiting ++ way ∷ []) p (mark_at (λ q. q.last) p marked_more)
  lasts_more p = elim (same_or_not p way) [
    | inl same ↦
        subst (λ q. IsLast (waiting ++ way ∷ []) q (mark_at (λ q. q.last) q marked_more)) (sym same)
        (subst (IsLast (waiting ++ way ∷ []) way) (sym last_way) (last_here waiting way mark mark_is))
    | inr apart ↦ subst (IsLast (waiting ++ way ∷ []) p) (sym (other_number waiting_below (waiting_at mark) way ss (λ q. q.last) (λ _. refl) p apart)) (last_elsewhere waiting way p apart _ (tree.lasts p))
  ]

  -- marks are where they were, and at the end of the way
  marked_end : 1 ≤ mark_at (λ q. q.first) way marked_more
  marked_end = subst (λ n. 1 ≤ n) (sym first_way) (either (mark_at (λ q. q.first) way ss))
    where
      either : (n : ℕ) → 1 ≤ (if n == 0 then mark else n)
      either zero = omega (arith, mark_is)
      either (suc n) = subst (λ k. 1 ≤ k) (sym (number_itself (suc n) mark (omega arith))) (omega arith)

  marked_still : (p : List ℕ) → 1 ≤ mark_at (λ q. q.first) p ss → 1 ≤ mark_at (λ q. q.first) p marked_more
  marked_still p some = elim (same_or_not p way) [
    | inl same ↦ subst (λ q. 1 ≤ mark_at (λ q. q.first) q marked_more) (sym same) marked_end
    | inr apart ↦ subst (λ n. 1 ≤ n) (sym (other_number waiting_below (waiting_at mark) way ss (λ q. q.first) (λ _. refl) p apart)) some
  ]

  are_marked : AreMarked (λ q. q.first) (λ q. q.waits) marked_more
  are_marked = record {
    above = λ p q at some. above p q at some (leads_to p way) refl;
    below = λ p w. below p w (leads_to p way) refl;
  }
    where
      no_way : (p q : List ℕ) → leads_to p way ≡ false → p ++ q ≡ way → ⊥
      no_way p q h e = let t = leads_on p q in let s = ap (leads_to p) e in cc (h, t, s)

      above : (p q : List ℕ) → IsPosition marked_more p → 1 ≤ mark_at (λ q. q.first) (p ++ q) marked_more → (b : Bool) → leads_to p way ≡ b → holds_of (λ q. q.waits) (item_at p marked_more) ≡ true
      above p q at some true h = on_way waiting_below (waiting_at mark) way ss (λ q. q.waits) (λ _. refl) (λ _. refl) p h (position_kept waiting_below (waiting_at mark) way p ss at)
      above p q at some false h =
          ap (holds_of (λ q. q.waits)) (off_way waiting_below (waiting_at mark) way ss p h)
          ∙ tree.marked.above p q (position_kept waiting_below (waiting_at mark) way p ss at) (subst (λ n. 1 ≤ n) (other_number waiting_below (waiting_at mark) way ss (λ q. q.first) (λ _. refl) (p ++ q) (no_way p q h)) some)

      below : (p : List ℕ) → holds_of (λ q. q.waits) (item_at p marked_more) ≡ true → (b : Bool) → leads_to p way ≡ b → (q : List ℕ) × (1 ≤ mark_at (λ q. q.first) (p ++ q) marked_more)
      below p w true h = (drop (length p) way, subst (λ q. 1 ≤ mark_at (λ q. q.first) q marked_more) (sym (leads_rest p way h)) marked_end)
      below p w false h = let r = tree.marked.below p (ap (holds_of (λ q. q.waits)) (sym (off_way waiting_below (waiting_at mark) way ss p h)) ∙ w) in (r.0, marked_still (p ++ r.0) (r.1))

  -- the links

  links_many : (n : ℕ) → length (links_after links mark n) ≡ length waiting
  links_many zero = tree.many
  links_many (suc n) = length-set links n mark ∙ tree.many

  -- an earlier one at the same place has a next one already, but for the last
  linked_on : (n : ℕ) → IsLast waiting way n → (i : ℕ) (p : List ℕ) → slice_get waiting i ≡ Some p → IsFirstFrom (waiting ++ way ∷ []) p (i + 1) (get_or (links_after links mark n) i 0)
  linked_on zero is i p h = first_elsewhere waiting way p (λ same. let m = is.most i (h ∙ ap Some same) in absurd (omega (arith, m))) (i + 1) (get_or links i 0) (tree.linked i p h)
  linked_on (suc n) is i p h = elim (cases_eq i n) [ inl same ↦ of_last same | inr other ↦ subst (IsFirstFrom (waiting ++ way ∷ []) p (i + 1)) (sym (get_or-set_other links n i mark 0 other)) (of_other other) ]
    where
      here : slice_get waiting n ≡ Some way
      here = (let e : suc n - 1 ≡ n = omega arith in ap (slice_get waiting) (sym e)) ∙ is.there (omega arith)

      within : n < length links
      within = let w = slice_get_within waiting n way here in let m = tree.many in omega (arith, w, m)

      none : (k : ℕ) → IsFirstFrom waiting way (n + 1) k → k ≡ 0
      none zero f = refl
      none (suc k) f = absurd (let r = f.there (omega arith) in let m = is.most (suc k - 1) (r.1) in let l = r.0 in omega (arith, m, l))

      of_last : i ≡ n → IsFirstFrom (waiting ++ way ∷ []) p (i + 1) (get_or (set links n mark) i 0)
      of_last same =
          let old = tree.linked n way here in
          let new = first_here waiting way (n + 1) (let m = tree.many in omega (arith, within, m)) (subst (IsFirstFrom waiting way (n + 1)) (none (get_or links n 0) old) old) in
          let place : Some way ≡ Some p = sym here ∙ ap (slice_get waiting) (sym same) ∙ h in
          let at : get_or (set links n mark) i 0 ≡ length waiting + 1 = ap (λ k. get_or (set links n mark) k 0) same ∙ get_or-set_same links n mark 0 within ∙ mark_is in
          subst (IsFirstFrom (waiting ++ way ∷ []) p (i + 1)) (sym at) (subst (λ q. IsFirstFrom (waiting ++ way ∷ []) q (i + 1) (length waiting + 1)) (cc place) (subst (λ k. IsFirstFrom (waiting ++ way ∷ []) way (k + 1) (length waiting + 1)) (sym same) new))

      of_other : (i ≡ n → ⊥) → IsFirstFrom (waiting ++ way ∷ []) p (i + 1) (get_or links i 0)
      of_other other = elim (same_or_not p way) [
        | inl same ↦
            let at : slice_get waiting i ≡ Some way = h ∙ ap Some same in
            let before : i + 1 ≤ n = (let m = is.most i at in elim (cases_lt i n) [ inl l ↦ omega (arith, l) | inr g ↦ absurd (other (omega (arith, g, m))) ]) in
            let old = tree.linked i way at in
            subst (λ q. IsFirstFrom (waiting ++ way ∷ []) q (i + 1) (get_or links i 0)) (sym same) (first_still waiting way (i + 1) (get_or links i 0) (old.least n before here).0 old)
        | inr apart ↦ first_elsewhere waiting way p apart (i + 1) (get_or links i 0) (tree.linked i p h)
      ]

  linked_more : (n : ℕ) → IsLast waiting way n → (i : ℕ) (p : List ℕ) → slice_get (waiting ++ way ∷ []) i ≡ Some p → IsFirstFrom (waiting ++ way ∷ []) p (i + 1) (get_or (links_after links mark n ++ 0 ∷ []) i 0)
  linked_more n is i p h = elim (got_either waiting way i p h) [
    | inl e ↦
        let w = slice_get_within waiting i p e in
        let m = links_many n in
        subst (IsFirstFrom (waiting ++ way ∷ []) p (i + 1)) (sym (get_or_append_left (links_after links mark n) (0 ∷ []) 0 i (omega (arith, w, m)))) (linked_on n is i p e)
    | inr r ↦
        let m = links_many n in
        let at : i ≡ length (links_after links mark n) = r.0 ∙ sym m in
        let none : get_or (links_after links mark n ++ 0 ∷ []) i 0 ≡ 0 = ap (λ k. get_or (links_after links mark n ++ 0 ∷ []) k 0) at ∙ get_or-append_seam (links_after links mark n) 0 [] 0 in
        subst (λ q. IsFirstFrom (waiting ++ way ∷ []) q (i + 1) (get_or (links_after links mark n ++ 0 ∷ []) i 0)) (r.1) (subst (IsFirstFrom (waiting ++ way ∷ []) way (i + 1)) (sym none) (none_later waiting way (i + 1) (let e = r.0 in omega (arith, e))))
  ]

  pub one_more : (new : List (Spot SeenQueue)) (more : List ℕ) → new ≡ marked_more → more ≡ links_after links mark last ++ 0 ∷ [] → IsSeenTree new (waiting ++ way ∷ []) more
  one_more new more e f = subst (λ ls. IsSeenTree new (waiting ++ way ∷ []) ls) (sym f) (subst (λ ts. IsSeenTree ts (waiting ++ way ∷ []) (links_after links mark last ++ 0 ∷ [])) (sym e) (record {
    rows_are = subst AreRows (sym (same_rows mark way ss marked_more refl)) tree.rows_are;
    firsts = firsts_more;
    lasts = lasts_more;
    marked = are_marked;
    linked = linked_more last (tree.lasts way);
    many = length-append (links_after links mark last) (0 ∷ []) ∙ (let m = links_many last in let n = length-append waiting (way ∷ []) in omega (arith, m, n));
  }))

-- at first nothing waits
module _ (rows : List Row) (ss : List (Spot SeenQueue)) (copied : ss ≡ map (made_of not_waiting) rows) where
  pub rows_copied : rows_seen ss ≡ rows
  rows_copied = ap rows_seen copied ∙ made-back not_waiting (λ q. q.queue) (λ _. refl) rows

  -- no item has a mark, and in none something waits
  no_number : (number : SeenQueue → ℕ) → ((q : Queue) → number (not_waiting q) ≡ 0) → (p : List ℕ) → mark_at number p ss ≡ 0
  no_number number zeros p = ap (mark_at number p) copied ∙ ap (λ o. option_map_or number o 0) (item_at-made not_waiting p rows) ∙ by (item_at p rows)
    where
      by : (o : Option Queue) → option_map_or number (option_map not_waiting o) 0 ≡ 0
      by None = refl
      by (Some q) = zeros q

  no_wait : (p : List ℕ) → holds_of (λ q. q.waits) (item_at p ss) ≡ false
  no_wait p = ap (λ o. holds_of (λ q. q.waits) o) (ap (item_at p) copied ∙ item_at-made not_waiting p rows) ∙ by (item_at p rows)
    where
      by : (o : Option Queue) → holds_of (λ (q : SeenQueue). q.waits) (option_map not_waiting o) ≡ false
      by None = refl
      by (Some q) = refl

  pub none_waits : AreRows rows → IsSeenTree ss [] []
  none_waits are = record {
    rows_are = subst AreRows (sym rows_copied) are;
    firsts = λ p. subst (IsFirstFrom [] p 0) (sym (no_number (λ q. q.first) (λ _. refl) p)) (record { least = λ j le h. absurd (cc h); there = λ some. absurd (omega (arith, some)) });
    lasts = λ p. subst (IsLast [] p) (sym (no_number (λ q. q.last) (λ _. refl) p)) (record { most = λ j h. absurd (cc h); there = λ some. absurd (omega (arith, some)) });
    marked = record {
      above = λ p q there some. absurd (let z = no_number (λ q. q.first) (λ _. refl) (p ++ q) in omega (arith, some, z));
      below = λ p w. absurd (let n = no_wait p in cc (n, w));
    };
    linked = λ i p h. absurd (cc h);
    many = refl;
  }
