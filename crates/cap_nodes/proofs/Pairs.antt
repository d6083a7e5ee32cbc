-- Pairs in order.
use Rattle.cap_nodes.proofs.Prelude.{◌≡◌, ℕ, ◌≤◌, ◌<◌, Bool, true, false, cond, List, ◌∷◌, not, sym, ap, ◌∙◌, arith, subst, refl, ◌==◌, ◌&&◌, ◌||◌, nat_lt, IfSome, IsTrue, ⊤, slice_get, nat_cmp, ordering_then, is_gt, Less, Equal, Greater, is_at, both_tied, unsigned_ties, nat_tests, pair_cmp, has_pair}

pub same_pair : (a n b m : ℕ) → is_at (pair_cmp (a, n)) (b, m) ≡ (a == b && n == m)
same_pair a n b m = sym (both_tied (a == b) (n == m) (nat_cmp a b) (nat_cmp n m) (unsigned_ties a b) (unsigned_ties n m))

pub more : (a n b m : ℕ) (old new : Bool) → new ≡ cond (is_at (pair_cmp (a, n)) (b, m)) true old → new ≡ (a == b && n == m || old)
more a n b m old new e = e ∙ ap (λ t. cond t true old) (same_pair a n b m) ∙ by (a == b && n == m)
  where
    by : (t : Bool) → cond t true old ≡ (t || old)
    by true = refl
    by false = refl

pub fewer : (a n b m : ℕ) (old new : Bool) → new ≡ cond (is_at (pair_cmp (a, n)) (b, m)) false old → new ≡ (not (a == b && n == m) && old)
fewer a n b m old new e = e ∙ ap (λ t. cond t false old) (same_pair a n b m) ∙ by (a == b && n == m)
  where
    by : (t : Bool) → cond t false old ≡ (not t && old)
    by true = refl
    by false = refl

-- a pair that is no later than another
first_below : (a n b m : ℕ) → is_gt (pair_cmp (a, n) (b, m)) ≡ false → a ≤ b
first_below a n b m = by (nat_lt a b) (a == b) refl refl
  where
    by : (t e : Bool) → nat_lt a b ≡ t → (a == b) ≡ e → is_gt (ordering_then (cond t Less (cond e Equal Greater)) (nat_cmp n m)) ≡ false → a ≤ b
    by true e h k = λ no. grind (arith, nat_tests, h)
    by false true h k = λ no. grind (arith, nat_tests, k)
    by false false h k = λ no. absurd (cc no)

second_below : (a n m : ℕ) → is_gt (pair_cmp (a, n) (a, m)) ≡ false → n ≤ m
second_below a n m = by (nat_lt a a) (a == a) (nat_lt n m) (n == m) refl refl refl refl
  where
    by : (t e u d : Bool) → nat_lt a a ≡ t → (a == a) ≡ e → nat_lt n m ≡ u → (n == m) ≡ d →
        is_gt (ordering_then (cond t Less (cond e Equal Greater)) (cond u Less (cond d Equal Greater))) ≡ false → n ≤ m
    by true e u d h k i j = λ no. absurd (grind (arith, nat_tests, h))
    by false true true d h k i j = λ no. grind (arith, nat_tests, i)
    by false true false true h k i j = λ no. grind (arith, nat_tests, j)
    by false true false false h k i j = λ no. absurd (cc no)
    by false false u d h k i j = λ no. absurd (cc no)

first_above : (a n b m : ℕ) → pair_cmp (a, n) (b, m) ≡ Less → a ≤ b
first_above a n b m e = first_below a n b m (ap is_gt e)

pub later : (a n m : ℕ) → n < m → pair_cmp (a, n) (a, m) ≡ Less
later a n m h =
    let no : nat_lt a a ≡ false = grind (arith, nat_tests) in
    let yes : (a == a) ≡ true = grind (arith, nat_tests) in
    let less : nat_lt n m ≡ true = grind (arith, nat_tests, h) in
    rw (no, yes, less) refl

-- the first of the pairs after one, by what a range says of it
module _ (pairs rest tail : List (ℕ × ℕ)) (owner after of n : ℕ) (steps : rest ≡ (of, n) ∷ tail)
    (first : (q : ℕ × ℕ) → (pair_cmp (owner, after) q ≡ Less) × ⊤ → IsTrue (has_pair pairs q.0 q.1) → IfSome (slice_get rest 0) (λ k. is_gt (pair_cmp k q) ≡ false)) where
  no_later : (m : ℕ) → after < m → has_pair pairs owner m ≡ true → is_gt (pair_cmp (of, n) (owner, m)) ≡ false
  no_later m h there = subst (λ (r : List (ℕ × ℕ)). IfSome (slice_get r 0) (λ k. is_gt (pair_cmp k (owner, m)) ≡ false)) steps (first (owner, m) (later owner after m h, tt) there)

  pub least : of ≡ owner → (m : ℕ) → after < m → has_pair pairs owner m ≡ true → n ≤ m
  least same m h there = second_below owner n m (subst (λ o. is_gt (pair_cmp (o, n) (owner, m)) ≡ false) same (no_later m h there))

  pub none_of : (of ≡ owner → ⊥) → IfSome (slice_get rest 0) (λ k. ((pair_cmp (owner, after) k ≡ Less) × ⊤) × IsTrue (has_pair pairs k.0 k.1)) → (m : ℕ) → after < m →
      has_pair pairs owner m ≡ false
  none_of other within m h = by (has_pair pairs owner m) refl
    where
      by : (b : Bool) → has_pair pairs owner m ≡ b → b ≡ false
      by true there =
          let in_range = subst (λ (r : List (ℕ × ℕ)). IfSome (slice_get r 0) (λ k. ((pair_cmp (owner, after) k ≡ Less) × ⊤) × IsTrue (has_pair pairs k.0 k.1))) steps within in
          let low = first_above owner after of n in_range.0.0 in
          let high = first_below of n owner m (no_later m h there) in
          absurd (other (omega (arith, low, high)))
      by false there = refl
