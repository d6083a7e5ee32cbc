-- Numbers that rise.
use Rattle.cap_copy.proofs.Prelude.{◌≡◌, ℕ, zero, suc, ◌+◌, ◌<◌, List, [], ◌∷◌, ap, arith, Some, map, slice_get, same_Some, IsRising, rising_from_low}
use Rattle.cap_copy.proofs.LoopSteps.{slice_get_in}

module _ {A : Type 0} (num : A → ℕ) where
  -- where numbers rise, the later has the greater
  pub rising_apart : (low : ℕ) (xs : List A) (high i j : ℕ) (x y : A) → IsRising low (map num xs) high → slice_get xs i ≡ Some x → slice_get xs j ≡ Some y → i < j → num x < num y
  rising_apart low [] high i j x y r e f h = absurd (cc e)
  rising_apart low (z ∷ xs) high i zero x y r e f h = absurd (omega arith)
  rising_apart low (z ∷ xs) high zero (suc j) x y r e f h =
      let n : num z ≡ num x = ap num (same_Some z x e) in
      omega (arith, n, rising_from_low num (num z + 1) xs high y r.1 (slice_get_in xs j y f))
  rising_apart low (z ∷ xs) high (suc i) (suc j) x y r e f h = rising_apart (num z + 1) xs high i j x y r.1 e f (omega arith)
