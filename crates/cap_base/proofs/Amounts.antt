-- Vectors compared and computed, amount by amount.
use Rattle.cap_base.proofs.Prelude.{◌≡◌, ℕ, ◌≤◌, ◌<◌, true, List, [], ◌∷◌, zero, suc, refl, arith, ◌==◌, nat_le, and_parts, and_from, nat_tests, get_or_past, get_or-map-range_with_len, length-map-range_with_len, amount, by_amount, fits}

-- what fits, amount by amount
pub fits_amounts : (a b : List ℕ) → fits a b ≡ true → (k : ℕ) → amount a k ≤ amount b k
fits_amounts [] b h k = omega arith
fits_amounts (x ∷ a) [] h zero = let z = (and_parts (x == 0) (fits a []) h).0 in grind (arith, nat_tests, z)
fits_amounts (x ∷ a) [] h (suc k) = fits_amounts a [] (and_parts (x == 0) (fits a []) h).1 k
fits_amounts (x ∷ a) (y ∷ b) h zero = let z = (and_parts (nat_le x y) (fits a b) h).0 in grind (arith, nat_tests, z)
fits_amounts (x ∷ a) (y ∷ b) h (suc k) = fits_amounts a b (and_parts (nat_le x y) (fits a b) h).1 k

pub amounts_fit : (a b : List ℕ) → ((k : ℕ) → amount a k ≤ amount b k) → fits a b ≡ true
amounts_fit [] b h = refl
amounts_fit (x ∷ a) [] h = let z = h 0 in and_from (x == 0) (fits a []) (grind (arith, nat_tests, z)) (amounts_fit a [] (λ k. h (suc k)))
amounts_fit (x ∷ a) (y ∷ b) h = let z = h 0 in and_from (nat_le x y) (fits a b) (grind (arith, nat_tests, z)) (amounts_fit a b (λ k. h (suc k)))

-- the amounts of a computed vector
pub amount_of : (K : ℕ) (f : ℕ → ℕ) (k : ℕ) → k < K → amount (by_amount K f) k ≡ f k
amount_of K f k h = get_or-map-range_with_len f 0 K k k 0 h (omega arith)

pub amount_past : (K : ℕ) (f : ℕ → ℕ) (k : ℕ) → K ≤ k → amount (by_amount K f) k ≡ 0
amount_past K f k h = let l = length-map-range_with_len f 0 K in get_or_past (by_amount K f) k 0 (omega (arith, h, l))
