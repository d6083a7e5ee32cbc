-- Counts by key, as there is one thing more, one less, and as a count is set back.
use Rattle.cap_nodes.proofs.Prelude.{◌≡◌, ℕ, zero, suc, ◌+◌, ◌-◌, ◌≤◌, Bool, true, false, List, [], ◌∷◌, ◌++◌, map, not, refl, ap, sym, ◌∙◌, arith, Some, filter, find, count_by, ◌==◌, if◌then◌else◌, lookup, IsRising, one_where, AreCounted, HasCount, count_in, some_count, option_map_or}
use Rattle.cap_nodes.proofs.Sums.{count-push, sum-without}

kept_is : (n : ℕ) → option_map_or (λ m. m) (some_count n) 0 ≡ n
kept_is zero = refl
kept_is (suc n) = refl

module _ {Q X : Type 0} (same : Q → Q → Bool) (key : X → Q) where
  abbrev pub has : Q → X → Bool
  has q x = same (key x) q

  -- what is kept of a key is how many have it
  pub count_is : (entries : List (Q × ℕ)) (xs : List X) (q : Q) → AreCounted same key entries xs → count_in same entries q ≡ count_by (has q) xs
  count_is entries xs q counts = ap (λ o. option_map_or (λ m. m) o 0) (counts q) ∙ kept_is (count_by (has q) xs)

  -- what is kept of a key whose count was set
  pub set_is : ((q : Q) → same q q ≡ true) → (old new : List (Q × ℕ)) (k : Q) (count : ℕ) → HasCount same k count old new → count_in same new k ≡ count
  set_is own old new k count set = ap (λ o. option_map_or (λ m. m) o 0) (set k ∙ ap (λ (b : Bool). if b then some_count count else lookup (same k) old) (own k)) ∙ kept_is count

  module _ (own : (q : Q) → same q q ≡ true) (decides : (p q : Q) → same p q ≡ true → p ≡ q) where
    -- once a key has the count of other things, of which as many have each other key as before
    pub counted_set : (old new : List (Q × ℕ)) (before after : List X) (k : Q) (count : ℕ) → AreCounted same key old before → HasCount same k count old new → count ≡ count_by (has k) after →
        ((q : Q) → same k q ≡ false → count_by (has q) after ≡ count_by (has q) before) → AreCounted same key new after
    counted_set old new before after k count counts set is others q = set q ∙ by (same k q) refl
      where
        by : (b : Bool) → same k q ≡ b → (if b then some_count count else lookup (same q) old) ≡ some_count (count_by (has q) after)
        by true e = ap some_count (is ∙ ap (λ p. count_by (has p) after) (decides k q e))
        by false e = counts q ∙ ap some_count (sym (others q e))

    -- a count that is set and set back
    pub counted_back : (old more new : List (Q × ℕ)) (xs : List X) (k : Q) (high count : ℕ) → AreCounted same key old xs → HasCount same k high old more → HasCount same k count more new → count ≡ count_by (has k) xs →
        AreCounted same key new xs
    counted_back old more new xs k high count counts up down is q = down q ∙ by (same k q) refl
      where
        by : (b : Bool) → same k q ≡ b → (if b then some_count count else lookup (same q) more) ≡ some_count (count_by (has q) xs)
        by true e = ap some_count (is ∙ ap (λ p. count_by (has p) xs) (decides k q e))
        by false e = up q ∙ ap (λ (b : Bool). if b then some_count high else lookup (same q) old) e ∙ counts q

    module _ (x : X) (k : Q) (its : key x ≡ k) where
      its_one : one_where (has k x) ≡ 1
      its_one = ap (λ p. one_where (same p k)) its ∙ ap one_where (own k)

      no_other : (q : Q) → same k q ≡ false → one_where (has q x) ≡ 0
      no_other q e = ap (λ p. one_where (same p q)) its ∙ ap one_where e

      -- one more
      pub counted_pushed : (old new : List (Q × ℕ)) (xs : List X) (count : ℕ) → AreCounted same key old xs → HasCount same k count old new → count ≡ count_by (has k) xs + 1 → AreCounted same key new (xs ++ x ∷ [])
      counted_pushed old new xs count counts set is =
          counted_set old new xs (xs ++ x ∷ []) k count counts set (let m = count-push (has k) xs x in omega (arith, is, m, its_one))
          (λ q e. let m = count-push (has q) xs x in let z = no_other q e in omega (arith, m, z))

      -- one that is there, and without it
      module _ (num : X → ℕ) (next n : ℕ) (xs : List X) (rising : IsRising 1 (map num xs) next) (at : find (λ y. num y == n) xs ≡ Some x) where
        moved : (t : X → Bool) → count_by t xs ≡ count_by t (filter (λ y. not (num y == n)) xs) + one_where (t x)
        moved t = sum-without num (λ y. one_where (t y)) n 1 xs next rising x at

        pub has_some : 1 ≤ count_by (has k) xs
        has_some = let m = moved (has k) in omega (arith, m, its_one)

        pub counted_removed : (old new : List (Q × ℕ)) (count : ℕ) → AreCounted same key old xs → HasCount same k count old new → count ≡ count_by (has k) xs - 1 → AreCounted same key new (filter (λ y. not (num y == n)) xs)
        counted_removed old new count counts set is =
            counted_set old new xs (filter (λ y. not (num y == n)) xs) k count counts set (let m = moved (has k) in omega (arith, is, m, its_one))
            (λ q e. let m = moved (has q) in let z = no_other q e in omega (arith, m, z))
