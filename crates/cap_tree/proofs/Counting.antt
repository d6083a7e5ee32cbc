-- How many spots a tree has.
use Rattle.cap_tree.proofs.Prelude.{◌≡◌, ℕ, suc, ◌+◌, ◌≤◌, ◌<◌, Bool, false, true, List, [], ◌∷◌, ◌++◌, length, map, take, get_or, refl, sym, ◌∙◌, ap, arith, sum_by, ◌==◌, nat_eq, nat_tests, length-append, length-map, take_all, take_more, sum_by-cons, sum_by-take-le, sum_by_push, same_test, Spot, under, below, spots}

module _ {T : Type 0} where
  length-all_below : (name : List ℕ) (j : ℕ) (kids : List (List (Spot T))) → length (below name j kids) ≡ sum_by length kids
  length-all_below name j [] = refl
  length-all_below name j (k ∷ kids) =
      omega (arith, length-append (map (under name j) k) (below name (suc j) kids), length-map k (under name j), length-all_below name (suc j) kids, sum_by-cons length k kids)

  pub length-spots : (name : T → List ℕ) (item : T) (kids : List (List (Spot T))) (value : List (Spot T)) → spots name item kids ≡ value → length value ≡ sum_by length kids + 1
  length-spots name item kids value e = omega (arith, ap length e, length-all_below (name item) 0 kids)

  -- the first children, and one more
  pub sum_more : (kids : List (List (Spot T))) (i : ℕ) (kid : List (Spot T)) → i < length kids → kid ≡ get_or kids i kid → sum_by length (take (i + 1) kids) ≡ sum_by length (take i kids) + length kid
  sum_more kids i kid w e = ap (sum_by length) (take_more kids i kid w ∙ ap (λ x. take i kids ++ x ∷ []) (sym e)) ∙ sum_by_push length (take i kids) kid

  pub sum_some : (kids : List (List (Spot T))) (i : ℕ) → sum_by length (take i kids) ≤ sum_by length kids
  sum_some kids i = sum_by-take-le length kids i

  pub sum_all : (kids : List (List (Spot T))) (i : ℕ) → length kids ≤ i → sum_by length (take i kids) ≡ sum_by length kids
  sum_all kids i w = ap (sum_by length) (take_all i kids w)

-- there are so many where nothing is left, and not where there are more
pub none_left : (left n count : ℕ) → left + n ≡ count → nat_eq left 0 ≡ (n == count)
none_left left n count e = same_test (nat_eq left 0) (n == count) (λ h. grind (arith, nat_tests, h, e)) (λ h. grind (arith, nat_tests, h, e))

pub more_there : (n count : ℕ) → count < n → false ≡ (n == count)
more_there n count w = same_test false (n == count) (λ h. absurd (cc h)) (λ h. absurd (grind (arith, nat_tests, h, w)))

-- a test of a count tells it
pub count_is : (b : Bool) (n count m : ℕ) → b ≡ (n == count) → m ≡ n → b ≡ true → count ≡ m
count_is b n count m e f t = let same : n ≡ count = grind (arith, nat_tests, sym e ∙ t) in sym (f ∙ same)

pub is_count : (b : Bool) (n count m : ℕ) → b ≡ (n == count) → m ≡ n → count ≡ m → b ≡ true
is_count b n count m e f l = let same : (n == count) ≡ true = grind (arith, nat_tests, sym f ∙ sym l) in e ∙ same
