-- The amounts of a sum, of a difference and of zeros, for lists of any lengths.
use Rattle.std.proofs.Common.{◌≡◌, ℕ, zero, suc, ◌+◌, ◌-◌, List, [], ◌∷◌, get_or, refl, arith, true}
use Rattle.std.specs.Prelude.{◌==◌}
use Rattle.std.proofs.lemmas.Bool.{and_parts, eqb-true}
use Rattle.cap_vector.specs.Vector.{plus, less, amounts_exchanged, amount, zeros, is_zero}

pub amount-plus : (a b : List ℕ) (k : ℕ) → get_or (plus a b) k 0 ≡ get_or a k 0 + get_or b k 0
unfolding plus
amount-plus [] b k = omega arith
amount-plus (x ∷ a) [] k = omega arith
amount-plus (x ∷ a) (y ∷ b) zero = refl
amount-plus (x ∷ a) (y ∷ b) (suc k) = amount-plus a b k

pub amount-less : (a b : List ℕ) (k : ℕ) → get_or (less a b) k 0 ≡ get_or a k 0 - get_or b k 0
unfolding less
amount-less [] b k = omega arith
amount-less (x ∷ a) [] k = omega arith
amount-less (x ∷ a) (y ∷ b) zero = refl
amount-less (x ∷ a) (y ∷ b) (suc k) = amount-less a b k

pub amount-exchanged : (old new v : List ℕ) (k : ℕ) → amount (amounts_exchanged old new v) k ≡ (amount v k - amount old k) + amount new k
amount-exchanged old new v k = omega (arith, amount-plus (less v old) new k, amount-less v old k)

pub amount-zeros : (n k : ℕ) → amount (zeros n) k ≡ 0
amount-zeros zero k = refl
amount-zeros (suc n) zero = refl
amount-zeros (suc n) (suc k) = amount-zeros n k

pub amount-is_zero : (v : List ℕ) (k : ℕ) → is_zero v ≡ true → amount v k ≡ 0
amount-is_zero [] k h = refl
amount-is_zero (x ∷ v) zero h = eqb-true x 0 ((and_parts (x == 0) (is_zero v) h).0)
amount-is_zero (x ∷ v) (suc k) h = amount-is_zero v k ((and_parts (x == 0) (is_zero v) h).1)
