-- Comparing and summing resource vectors.
use Rattle.std.specs.Prelude.{ℕ, ◌*◌, List, [], ◌∷◌, map, Bool, true, ◌&&◌, ◌==◌, nat_le, if◌then◌else◌}
use Rattle.std.specs.List.{sum_by}
use Rattle.cap_vector.specs.Vector.{amount, by_amount}

-- whether each amount of a is at most that of b, where an amount that a list lacks is 0
abbrev pub fits : List ℕ → List ℕ → Bool
fits [] b = true
fits (x ∷ a) [] = x == 0 && fits a []
fits (x ∷ a) (y ∷ b) = nat_le x y && fits a b

-- each amount so many times
abbrev pub times : ℕ → List ℕ → List ℕ
times factor v = map (λ x. factor * x) v

-- the filtered sum of amount k: over the items that pass the test
abbrev pub part : {X : Type 0} → (X → Bool) → (X → List ℕ) → List X → ℕ → ℕ
part test of items k = sum_by (λ x. if test x then amount (of x) k else 0) items

-- the filtered sum of vectors of K amounts
abbrev pub sum_where : {X : Type 0} → ℕ → (X → Bool) → (X → List ℕ) → List X → List ℕ
sum_where K test of items = by_amount K (part test of items)
