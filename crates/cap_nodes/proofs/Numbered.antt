-- Items by their numbers, which rise.
use Rattle.cap_nodes.proofs.Prelude.{◌≡◌, ℕ, ◌+◌, ◌≤◌, ◌<◌, Bool, true, false, List, [], ◌∷◌, ◌++◌, cond, not, map, refl, sym, ap, ◌∙◌, arith, Some, None, find, filter, option_map, ◌==◌, nat_eq, nat_cmp, Greater, lookup, remove_entry, set_value, values_of, insert_entry, is_at, unsigned_ties, nat_cmp_is, nat_tests, IsRising, find_changed, rising_ends, tagged_items}

-- the tests of maps by number
pub same_number : (n k : ℕ) → nat_eq n k ≡ (k == n)
same_number n k = grind (arith, nat_tests)

pub same_tie : (n k : ℕ) → is_at (nat_cmp n) k ≡ (k == n)
same_tie n k = sym (unsigned_ties n k) ∙ same_number n k

greater : (n k : ℕ) → k < n → nat_cmp n k ≡ Greater
greater n k h = sym (nat_cmp_is n k Greater h)

-- where none passes a test, all stay without those that do
pub none_gone : {X : Type 0} (t : X → Bool) (xs : List X) → None ≡ find t xs → filter (λ x. not (t x)) xs ≡ xs
none_gone t [] e = refl
none_gone t (x ∷ xs) e = by (t x) e (none_gone t xs)
  where
    by : (b : Bool) → None ≡ cond b (Some x) (find t xs) → (None ≡ find t xs → filter (λ y. not (t y)) xs ≡ xs) → cond (not b) (x ∷ filter (λ y. not (t y)) xs) (filter (λ y. not (t y)) xs) ≡ x ∷ xs
    by true h more = absurd (cc h)
    by false h more = ap (λ ys. x ∷ ys) (more h)

module _ {X : Type 0} (num : X → ℕ) where
  pub values-tagged : (xs : List X) → values_of (tagged_items num xs) ≡ xs
  values-tagged [] = refl
  values-tagged (x ∷ xs) = ap (λ ys. x ∷ ys) (values-tagged xs)

  pub lookup-tagged : (test : ℕ → Bool) (n : ℕ) → ((k : ℕ) → test k ≡ (k == n)) → (xs : List X) → lookup test (tagged_items num xs) ≡ find (λ x. num x == n) xs
  lookup-tagged test n same [] = refl
  lookup-tagged test n same (x ∷ xs) = rw (same (num x), lookup-tagged test n same xs) refl

  -- no later item has an earlier number
  pub not_later : (n low : ℕ) (xs : List X) (high : ℕ) → IsRising low (map num xs) high → n < low → filter (λ x. not (num x == n)) xs ≡ xs
  not_later n low [] high r h = refl
  not_later n low (x ∷ xs) high r h =
      let no : (num x == n) ≡ false = grind (arith, nat_tests, r.0, h) in
      rw (no, not_later n (num x + 1) xs high r.1 (omega (arith, r.0, h))) refl

  pub none_at_end : (n low : ℕ) (xs : List X) → IsRising low (map num xs) n → find (λ x. num x == n) xs ≡ None
  none_at_end n low [] r = refl
  none_at_end n low (x ∷ xs) r =
      let below : num x + 1 ≤ n = rising_ends num (num x + 1) xs n r.1 in
      let no : (num x == n) ≡ false = grind (arith, nat_tests, below) in
      rw (no, none_at_end n (num x + 1) xs r.1) refl

  same_later : (n low : ℕ) (xs : List X) (high : ℕ) (change : X → X) → IsRising low (map num xs) high → n < low → map (λ x. cond (num x == n) (change x) x) xs ≡ xs
  same_later n low [] high change r h = refl
  same_later n low (x ∷ xs) high change r h =
      let no : (num x == n) ≡ false = grind (arith, nat_tests, r.0, h) in
      rw (no, same_later n (num x + 1) xs high change r.1 (omega (arith, r.0, h))) refl

  -- without the item of a number
  pub remove-tagged : (test : ℕ → Bool) (n : ℕ) → ((k : ℕ) → test k ≡ (k == n)) → (low : ℕ) (xs : List X) (high : ℕ) → IsRising low (map num xs) high →
      remove_entry test (tagged_items num xs) ≡ tagged_items num (filter (λ x. not (num x == n)) xs)
  remove-tagged test n same low [] high r = refl
  remove-tagged test n same low (x ∷ xs) high r = by (num x == n) refl (remove-tagged test n same (num x + 1) xs high r.1)
    where
      by : (b : Bool) → (num x == n) ≡ b → remove_entry test (tagged_items num xs) ≡ tagged_items num (filter (λ y. not (num y == n)) xs) →
          remove_entry test (tagged_items num (x ∷ xs)) ≡ tagged_items num (filter (λ y. not (num y == n)) (x ∷ xs))
      by true e more = rw (same (num x), e) (sym (ap (tagged_items num) (not_later n (num x + 1) xs high r.1 (grind (arith, nat_tests, e)))))
      by false e more = rw (same (num x), e) (ap (λ ys. (num x, x) ∷ ys) more)

  -- one more of the next number
  pub insert-tagged : (low : ℕ) (xs : List X) (n : ℕ) (x : X) → num x ≡ n → IsRising low (map num xs) n → insert_entry nat_cmp (tagged_items num xs) n x ≡ tagged_items num (xs ++ x ∷ [])
  insert-tagged low [] n x e r = ap (λ k. (k, x) ∷ []) (sym e)
  insert-tagged low (y ∷ xs) n x e r =
      let below : num y < n = omega (arith, rising_ends num (num y + 1) xs n r.1) in
      rw (greater n (num y) below) (ap (λ ys. (num y, y) ∷ ys) (insert-tagged (num y + 1) xs n x e r.1))

  pub push-tagged : (xs : List X) (n : ℕ) (x : X) → num x ≡ n → tagged_items num xs ++ (n, x) ∷ [] ≡ tagged_items num (xs ++ x ∷ [])
  push-tagged [] n x e = ap (λ k. (k, x) ∷ []) (sym e)
  push-tagged (y ∷ xs) n x e = ap (λ ys. (num y, y) ∷ ys) (push-tagged xs n x e)

  -- the item of a number, changed
  pub set-tagged : (test : ℕ → Bool) (n : ℕ) → ((k : ℕ) → test k ≡ (k == n)) → (change : X → X) → ((x : X) → num (change x) ≡ num x) → (w : X) (low : ℕ) (xs : List X) (high : ℕ) →
      IsRising low (map num xs) high → ((x : X) → find (λ y. num y == n) xs ≡ Some x → w ≡ change x) →
      set_value test (tagged_items num xs) w ≡ tagged_items num (map (λ x. cond (num x == n) (change x) x) xs)
  set-tagged test n same change keeps w low [] high r is = refl
  set-tagged test n same change keeps w low (x ∷ xs) high r is = by (num x == n) refl (λ later. set-tagged test n same change keeps w (num x + 1) xs high r.1 later)
    where
      by : (b : Bool) → (num x == n) ≡ b →
          (((y : X) → find (λ z. num z == n) xs ≡ Some y → w ≡ change y) → set_value test (tagged_items num xs) w ≡ tagged_items num (map (λ y. cond (num y == n) (change y) y) xs)) →
          set_value test (tagged_items num (x ∷ xs)) w ≡ tagged_items num (map (λ y. cond (num y == n) (change y) y) (x ∷ xs))
      by true e more =
          let later = same_later n (num x + 1) xs high change r.1 (grind (arith, nat_tests, e)) in
          let here : w ≡ change x = is x (rw e refl) in
          rw (same (num x), e, later, here, keeps x) refl
      by false e more = rw (same (num x), e) (ap (λ ys. (num x, x) ∷ ys) (more (λ y h. is y (rw e h))))

  -- what a change of the item of a number keeps of each
  pub kept-change : {Y : Type 0} (f : X → Y) (n : ℕ) (change : X → X) → ((x : X) → f (change x) ≡ f x) → (xs : List X) → map f (map (λ x. cond (num x == n) (change x) x) xs) ≡ map f xs
  kept-change f n change keeps [] = refl
  kept-change f n change keeps (x ∷ xs) = λ i. by (num x == n) i ∷ kept-change f n change keeps xs i
    where
      by : (b : Bool) → f (cond b (change x) x) ≡ f x
      by true = keeps x
      by false = refl

  -- the item of a number after a change of one
  pub found-change : (n : ℕ) (change : X → X) → ((x : X) → num (change x) ≡ num x) → (m : ℕ) (xs : List X) →
      find (λ x. num x == m) (map (λ x. cond (num x == n) (change x) x) xs) ≡ option_map (λ x. cond (num x == n) (change x) x) (find (λ x. num x == m) xs)
  found-change n change keeps m xs = find_changed num (λ x. cond (num x == n) (change x) x) (λ x. by x (num x == n)) m xs
    where
      by : (x : X) (b : Bool) → num (cond b (change x) x) ≡ num x
      by x true = keeps x
      by x false = refl
