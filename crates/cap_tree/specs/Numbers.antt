-- Numbers in order, and what is counted of them.
use Rattle.std.specs.Prelude.{ℕ, ◌<◌, ◌≤◌, ◌==◌, not, nat_lt, if◌then◌else◌, List, [], ◌∷◌, filter, length, slice_index_or, Option, Some, None}
use Rattle.cap_base.specs.Members.{IsIn, IsRising}

-- the first of numbers, 0 where there is none
abbrev pub first_number : List ℕ → ℕ
first_number [] = 0
first_number (n ∷ ns) = n

-- numbers from 1 on, in order
pub record AreNumbers (ns : List ℕ) : Type 0 where
  pub end : ℕ
  pub rise : IsRising 1 ns end

-- numbers in order with one more, and without one
abbrev pub with_number : ℕ → List ℕ → List ℕ
with_number n [] = n ∷ []
with_number n (m ∷ ms) = if nat_lt m n then m ∷ with_number n ms else n ∷ m ∷ ms

abbrev pub without_number : ℕ → List ℕ → List ℕ
without_number n ms = filter (λ m. not (m == n)) ms

-- a place among numbers in order: those before it are not greater than a number, and the others are
pub record IsPlaceOf (n : ℕ) (ns : List ℕ) (place : ℕ) : Type 0 where
  pub within : place ≤ length ns
  pub before : (k : ℕ) → k < place → slice_index_or ns k 0 ≤ n
  pub after : (k : ℕ) → place ≤ k → k < length ns → n < slice_index_or ns k 0

-- the least of these that is greater than a number; and that none is
pub record IsLeastAfter (n : ℕ) (ns : List ℕ) (m : ℕ) : Type 0 where
  pub there : IsIn m ns
  pub later : n < m
  pub least : (k : ℕ) → IsIn k ns → n < k → m ≤ k

abbrev pub IsNextNumber : ℕ → List ℕ → Option ℕ → Type 0
IsNextNumber n ns None = (k : ℕ) → IsIn k ns → k ≤ n
IsNextNumber n ns (Some m) = IsLeastAfter n ns m
