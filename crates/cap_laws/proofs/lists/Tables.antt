-- Tables of numbered items: each item is changed and stays what it is, one goes, or one of the next number comes.
use Rattle.cap_laws.proofs.Prelude.{◌≡◌, ℕ, ◌+◌, ◌≤◌, ◌<◌, Bool, true, false, refl, count_by, count_cons, one_where, List, [], ◌∷◌, ◌++◌, ◌∙◌, ap, subst, inl, inr, arith, Option, Some, None, IsSome, cond, not, ◌==◌, filter, find, map, option_map, option_or, cases_Bool, cases_lt, nat_tests, find-append, IsRising, IsIn, of_filter, of_map, in_either, rising_kept, rising_more, same_numbers, none_from_high, find_changed, find_others, find_gone, find_with_more, not_none}

-- A table with its next number, and the same after it moved: what a change keeps, what is known of a number that goes, and of an item that comes.
pub data TableMoves {A : Type 0} (number : A → ℕ) (Keeps : (A → A) → Type 0) (Goes : ℕ → Type 0) (Comes : A → Type 0) (xs : List A) (next : ℕ) (ys : List A) (after : ℕ) : Type 0 where
  change : (f : A → A) → ((a : A) → number (f a) ≡ number a) → Keeps f → ys ≡ map f xs → after ≡ next → TableMoves number Keeps Goes Comes xs next ys after
  goes : (n : ℕ) → Goes n → ys ≡ filter (λ a. not (number a == n)) xs → after ≡ next → TableMoves number Keeps Goes Comes xs next ys after
  comes : (a : A) → number a ≡ next → Comes a → ys ≡ xs ++ a ∷ [] → after ≡ next + 1 → TableMoves number Keeps Goes Comes xs next ys after

-- of items in order no number stands twice
pub count_numbered : {A : Type 0} (number : A → ℕ) (n low : ℕ) (xs : List A) (high : ℕ) → IsRising low (map number xs) high →
    (count_by (λ x. number x == n) xs ≤ 1) × (n < low → count_by (λ x. number x == n) xs ≡ 0)
count_numbered number n low [] high r = (omega arith, λ h. refl)
count_numbered number n low (x ∷ xs) high r = by (number x == n) refl (count_numbered number n (number x + 1) xs high r.1)
  where
    by : (b : Bool) → number x == n ≡ b → (count_by (λ y. number y == n) xs ≤ 1) × (n < number x + 1 → count_by (λ y. number y == n) xs ≡ 0) →
        (count_by (λ y. number y == n) (x ∷ xs) ≤ 1) × (n < low → count_by (λ y. number y == n) (x ∷ xs) ≡ 0)
    by true e h =
        let same : number x ≡ n = grind (arith, nat_tests, e) in
        let head : one_where (number x == n) ≡ 1 = ap one_where e in
        let none : count_by (λ y. number y == n) xs ≡ 0 = h.1 (omega (arith, same)) in
        (omega (arith, count_cons (λ y. number y == n) x xs, head, none), λ g. absurd (omega (arith, g, same, r.0)))
    by false e h =
        let head : one_where (number x == n) ≡ 0 = ap one_where e in
        (omega (arith, count_cons (λ y. number y == n) x xs, head, h.0), λ g. omega (arith, count_cons (λ y. number y == n) x xs, head, h.1 (omega (arith, g, r.0))))

-- who is there has a number that was used
pub used : {A : Type 0} (number : A → ℕ) (xs : List A) (next n : ℕ) → IsRising 1 (map number xs) next → IsSome (find (λ a. number a == n) xs) → n < next
used number xs next n r h = elim (cases_lt n next) [
  | inl b ↦ b
  | inr b ↦ absurd (not_none (find (λ a. number a == n) xs) (none_from_high number 1 xs next n r b) h)
]

module _ {A : Type 0} {number : A → ℕ} {Keeps : (A → A) → Type 0} {Goes : ℕ → Type 0} {Comes : A → Type 0} {xs : List A} {next : ℕ} {ys : List A} {after : ℕ} where
  -- numbers stay distinct and below the next, which only rises
  pub numbers_move : TableMoves number Keeps Goes Comes xs next ys after → IsRising 1 (map number xs) next → IsRising 1 (map number ys) after
  numbers_move (TableMoves.change f same k e n) r = rw (e, n, same_numbers number f same xs) r
  numbers_move (TableMoves.goes m g e n) r = rw (e, n) (rising_kept number (λ a. not (number a == m)) 1 xs next r)
  numbers_move (TableMoves.comes a is c e n) r = rw (e, n) (rising_more number 1 xs a next is r)

  pub next_rises : TableMoves number Keeps Goes Comes xs next ys after → next ≤ after
  next_rises (TableMoves.change f same k e n) = omega (arith, n)
  next_rises (TableMoves.goes m g e n) = omega (arith, n)
  next_rises (TableMoves.comes a is c e n) = omega (arith, n)

  -- a number that was used and is not there is never used again
  stays_missing : TableMoves number Keeps Goes Comes xs next ys after → (n : ℕ) → find (λ a. number a == n) xs ≡ None → n < next → find (λ a. number a == n) ys ≡ None
  stays_missing (TableMoves.change f same k e m) n none h = ap (find (λ a. number a == n)) e ∙ find_changed number f same n xs ∙ ap (option_map f) none
  stays_missing (TableMoves.goes m g e s) n none h =
      ap (find (λ a. number a == n)) e ∙ elim (cases_Bool (m == n)) [ inl i ↦ find_gone number m n i xs | inr i ↦ find_others number m n i xs ∙ none ]
  stays_missing (TableMoves.comes a is c e s) n none h =
      let other : number a == n ≡ false = grind (arith, nat_tests, is, h) in
      ap (find (λ b. number b == n)) e ∙ find-append (λ b. number b == n) xs (a ∷ []) ∙ (λ i. option_or (none i) (cond (other i) (Some a) None))

  pub spent : TableMoves number Keeps Goes Comes xs next ys after → (n : ℕ) → find (λ a. number a == n) xs ≡ None → n < next → (find (λ a. number a == n) ys ≡ None) × (n < after)
  spent m n none h = (stays_missing m n none h, omega (arith, h, next_rises m))

  -- of who is there and does not go stays what a change keeps
  pub stays : {V : Type 0} (seen : Option A → V) → ((f : A → A) → Keeps f → (o : Option A) → seen (option_map f o) ≡ seen o) → TableMoves number Keeps Goes Comes xs next ys after →
      (n : ℕ) → IsSome (find (λ a. number a == n) xs) → ((m : ℕ) → Goes m → m == n ≡ false) → seen (find (λ a. number a == n) ys) ≡ seen (find (λ a. number a == n) xs)
  stays seen kept (TableMoves.change f same k e m) n h other = ap seen (ap (find (λ a. number a == n)) e ∙ find_changed number f same n xs) ∙ kept f k (find (λ a. number a == n) xs)
  stays seen kept (TableMoves.goes m g e s) n h other = ap seen (ap (find (λ a. number a == n)) e ∙ find_others number m n (other m g) xs)
  stays seen kept (TableMoves.comes a is c e s) n h other = ap seen (ap (find (λ b. number b == n)) e ∙ find_with_more number n xs (a ∷ []) h)

  -- what holds of each, with what changes keep, and of who comes, holds of each
  pub each_after : (P : A → Type 0) → ((f : A → A) → ((a : A) → number (f a) ≡ number a) → Keeps f → (a : A) → P a → P (f a)) → ((a : A) → number a ≡ next → Comes a → P a) →
      TableMoves number Keeps Goes Comes xs next ys after → ((a : A) → IsIn a xs → P a) → (a : A) → IsIn a ys → P a
  each_after P kept new (TableMoves.change f same k e m) each a i = let w = of_map f xs a (subst (IsIn a) e i) in subst P (w.2) (kept f same k (w.0) (each (w.0) (w.1)))
  each_after P kept new (TableMoves.goes m g e s) each a i = each a (of_filter (λ b. not (number b == m)) xs a (subst (IsIn a) e i)).1
  each_after P kept new (TableMoves.comes b is c e s) each a i = elim (in_either a xs (b ∷ []) (subst (IsIn a) e i)) [
    | inl h ↦ each a h
    | inr (inl h) ↦ subst P h (new b is c)
    | inr (inr h) ↦ absurd h
  ]
