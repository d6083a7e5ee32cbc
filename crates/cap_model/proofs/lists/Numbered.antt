-- Lists whose numbers rise, and looking up by number.
use Rattle.cap_model.proofs.Prelude.{◌≡◌, ℕ, ◌+◌, ◌≤◌, ◌<◌, Bool, true, false, List, [], ◌∷◌, ◌++◌, refl, sym, ◌∙◌, ap, inl, inr, arith, ◌||◌, Option, Some, None, IsSome, option_map, cond, not, ◌==◌, filter, find, map, option_or, find-append, nat_tests, is_among, Container, filter_same, numbers_turned, IsRising, IsIn}

pub rising_low : (a b : ℕ) (ns : List ℕ) (high : ℕ) → a ≤ b → IsRising b ns high → IsRising a ns high
rising_low a b [] high h r = omega arith
rising_low a b (n ∷ ns) high h r = (omega (arith, r.0), r.1)

module _ {A : Type 0} (num : A → ℕ) where
  pub rising_kept : (t : A → Bool) (low : ℕ) (xs : List A) (high : ℕ) → IsRising low (map num xs) high → IsRising low (map num (filter t xs)) high
  rising_kept t low [] high r = r
  rising_kept t low (x ∷ xs) high r = by (t x) (rising_kept t (num x + 1) xs high r.1)
    where
      by : (b : Bool) → IsRising (num x + 1) (map num (filter t xs)) high → IsRising low (map num (cond b (x ∷ filter t xs) (filter t xs))) high
      by true h = (r.0, h)
      by false h = rising_low low (num x + 1) (map num (filter t xs)) high (omega (arith, r.0)) h

  pub rising_more : (low : ℕ) (xs : List A) (x : A) (next : ℕ) → num x ≡ next → IsRising low (map num xs) next → IsRising low (map num (xs ++ x ∷ [])) (next + 1)
  rising_more low [] x next e r = (omega (arith, e), omega (arith, e))
  rising_more low (y ∷ xs) x next e r = (r.0, rising_more (num y + 1) xs x next e r.1)

  pub rising_ends : (low : ℕ) (xs : List A) (high : ℕ) → IsRising low (map num xs) high → low ≤ high
  rising_ends low [] high r = r
  rising_ends low (x ∷ xs) high r = omega (arith, r.0, rising_ends (num x + 1) xs high r.1)

  pub rising_from_low : (low : ℕ) (xs : List A) (high : ℕ) (x : A) → IsRising low (map num xs) high → IsIn x xs → low ≤ num x
  rising_from_low low [] high x r m = absurd m
  rising_from_low low (y ∷ xs) high x r (inl e) = let n : num y ≡ num x = ap num e in omega (arith, n, r.0)
  rising_from_low low (y ∷ xs) high x r (inr m) = omega (arith, r.0, rising_from_low (num y + 1) xs high x r.1 m)

  pub rising_to_high : (low : ℕ) (xs : List A) (high : ℕ) (x : A) → IsRising low (map num xs) high → IsIn x xs → num x < high
  rising_to_high low [] high x r m = absurd m
  rising_to_high low (y ∷ xs) high x r (inl e) = let n : num y ≡ num x = ap num e in omega (arith, n, rising_ends (num y + 1) xs high r.1)
  rising_to_high low (y ∷ xs) high x r (inr m) = rising_to_high (num y + 1) xs high x r.1 m

  -- a member of a list in order is found by its number
  pub found_by_number : (low : ℕ) (xs : List A) (high : ℕ) (x : A) → IsRising low (map num xs) high → IsIn x xs → find (λ y. num y == num x) xs ≡ Some x
  found_by_number low [] high x r m = absurd m
  found_by_number low (y ∷ xs) high x r (inl e) =
      let n : num y ≡ num x = ap num e in
      let same : num y == num x ≡ true = grind (arith, nat_tests, n) in
      ap (λ b. cond b (Some y) (find (λ z. num z == num x) xs)) same ∙ ap (λ z. Some z) e
  found_by_number low (y ∷ xs) high x r (inr m) =
      let above = rising_from_low (num y + 1) xs high x r.1 m in
      let other : num y == num x ≡ false = grind (arith, nat_tests, above) in
      ap (λ b. cond b (Some y) (find (λ z. num z == num x) xs)) other ∙ found_by_number (num y + 1) xs high x r.1 m

  -- nobody has a number from the upper bound on
  pub none_from_high : (low : ℕ) (xs : List A) (high n : ℕ) → IsRising low (map num xs) high → high ≤ n → find (λ y. num y == n) xs ≡ None
  none_from_high low [] high n r h = refl
  none_from_high low (y ∷ xs) high n r h =
      let below = rising_to_high low (y ∷ xs) high y r (inl refl) in
      let other : num y == n ≡ false = grind (arith, nat_tests, below, h) in
      ap (λ b. cond b (Some y) (find (λ z. num z == n) xs)) other ∙ none_from_high (num y + 1) xs high n r.1 h

  -- nobody has a number below the lower bound
  pub none_before : (n low : ℕ) (xs : List A) (high : ℕ) → IsRising low (map num xs) high → n < low → find (λ y. num y == n) xs ≡ None
  none_before n low [] high r h = refl
  none_before n low (y ∷ xs) high r h =
      let no : num y == n ≡ false = grind (arith, nat_tests, r.0, h) in
      ap (λ b. cond b (Some y) (find (λ z. num z == n) xs)) no ∙ none_before n (num y + 1) xs high r.1 (omega (arith, r.0, h))

  -- a change that keeps numbers
  pub same_numbers : (f : A → A) → ((x : A) → num (f x) ≡ num x) → (xs : List A) → map num (map f xs) ≡ map num xs
  same_numbers f e [] = refl
  same_numbers f e (x ∷ xs) = λ i. e x i ∷ same_numbers f e xs i

-- looking a number up after a change that keeps numbers, and where others go
module _ {A : Type 0} (num : A → ℕ) where
  mapped_find : (f : A → A) (b : Bool) (x : A) (o p : Option A) → p ≡ option_map f o → cond b (Some (f x)) p ≡ option_map f (cond b (Some x) o)
  mapped_find f true x o p e = refl
  mapped_find f false x o p e = e

  pub find_changed : (f : A → A) → ((x : A) → num (f x) ≡ num x) → (n : ℕ) (xs : List A) → find (λ y. num y == n) (map f xs) ≡ option_map f (find (λ y. num y == n) xs)
  find_changed f same n [] = refl
  find_changed f same n (x ∷ xs) =
      (λ i. cond (same x i == n) (Some (f x)) (find (λ y. num y == n) (map f xs)))
      ∙ mapped_find f (num x == n) x (find (λ y. num y == n) xs) (find (λ y. num y == n) (map f xs)) (find_changed f same n xs)

  pub find_others : (m n : ℕ) → m == n ≡ false → (xs : List A) → find (λ y. num y == n) (filter (λ y. not (num y == m)) xs) ≡ find (λ y. num y == n) xs
  find_others m n e [] = refl
  find_others m n e (x ∷ xs) = by (num x == m) refl (find_others m n e xs)
    where
      by : (c : Bool) → num x == m ≡ c → find (λ y. num y == n) (filter (λ y. not (num y == m)) xs) ≡ find (λ y. num y == n) xs →
          find (λ y. num y == n) (cond (not c) (x ∷ filter (λ y. not (num y == m)) xs) (filter (λ y. not (num y == m)) xs)) ≡ cond (num x == n) (Some x) (find (λ y. num y == n) xs)
      by true c r = let other : num x == n ≡ false = grind (arith, nat_tests, c, e) in r ∙ sym (ap (λ b. cond b (Some x) (find (λ y. num y == n) xs)) other)
      by false c r = ap (λ o. cond (num x == n) (Some x) o) r

  -- the one of the number that goes is not found
  pub find_gone : (m n : ℕ) → m == n ≡ true → (xs : List A) → find (λ y. num y == n) (filter (λ y. not (num y == m)) xs) ≡ None
  find_gone m n e [] = refl
  find_gone m n e (x ∷ xs) = by (num x == m) refl (find_gone m n e xs)
    where
      by : (c : Bool) → num x == m ≡ c → find (λ y. num y == n) (filter (λ y. not (num y == m)) xs) ≡ None →
          find (λ y. num y == n) (cond (not c) (x ∷ filter (λ y. not (num y == m)) xs) (filter (λ y. not (num y == m)) xs)) ≡ None
      by true c r = r
      by false c r = let other : num x == n ≡ false = grind (arith, nat_tests, c, e) in ap (λ b. cond b (Some x) (find (λ y. num y == n) (filter (λ y. not (num y == m)) xs))) other ∙ r

  -- one that is there stays found where one more comes
  kept_found : (o p : Option A) → IsSome o → option_or o p ≡ o
  kept_found None p h = absurd (cc h)
  kept_found (Some x) p h = refl

  pub find_with_more : (n : ℕ) (xs ys : List A) → IsSome (find (λ y. num y == n) xs) → find (λ y. num y == n) (xs ++ ys) ≡ find (λ y. num y == n) xs
  find_with_more n xs ys h = find-append (λ y. num y == n) xs ys ∙ kept_found (find (λ y. num y == n) xs) (find (λ y. num y == n) ys) h

-- the containers without the one of a number are those without this one
pub one_completed : (c : Container) (live : List Container) → filter (λ d. not (d.number == c.number)) live ≡ filter (λ d. not (is_among (c ∷ []) d)) live
one_completed c live = filter_same (λ d. not (d.number == c.number)) (λ d. not (is_among (c ∷ []) d)) live (λ d m. ap not (numbers_turned d.number c.number ∙ or_none (c.number == d.number)))
  where
    or_none : (b : Bool) → b ≡ b || false
    or_none true = refl
    or_none false = refl
