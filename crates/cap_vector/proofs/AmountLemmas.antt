-- The amounts of a sum and of a difference, for lists of any lengths.
use Rattle.std.proofs.Common.{inl, inr, ◌≡◌, ℕ, zero, suc, ◌+◌, ◌-◌, ◌*◌, ◌≤◌, ◌<◌, List, [], ◌∷◌, length, get_or, refl, sym, ◌∙◌, arith, true}
use Rattle.std.specs.Prelude.{nat_le, min}
use Rattle.std.proofs.lemmas.List.{ext_get_or, get_or_past}
use Rattle.std.proofs.lemmas.List.FromFn.{length-map-range_with_len, get_or-map-range_with_len}
use Rattle.std.proofs.lemmas.Bool.{cases_lt, and_parts, leb-true, le-leb}
use Rattle.cap_vector.specs.Vector.{plus, less, amounts_exchanged, amount, FitsTimes, IsWithin, is_within}
use Rattle.cap_vector.specs.Rounding.{raised_amount, round_up}
pub use Rattle.cap_vector.specs.AmountLaws.{amount-plus, amount-less, amount-exchanged, amount-zeros, amount-is_zero}

pub length-plus : (a b : List ℕ) → length a ≡ length b → length (plus a b) ≡ length a
unfolding plus
length-plus [] b h = sym h
length-plus (x ∷ a) [] h = refl
length-plus (x ∷ a) (y ∷ b) h = let r : length (plus a b) ≡ length a = length-plus a b (omega arith) in omega arith

pub length-less : (a b : List ℕ) → length (less a b) ≡ length a
unfolding less
length-less [] b = refl
length-less (x ∷ a) [] = refl
length-less (x ∷ a) (y ∷ b) = let r : length (less a b) ≡ length a = length-less a b in omega arith

-- a list of the amounts of the sum is the sum
pub is_plus : (a b r : List ℕ) (n : ℕ) → length a ≡ n → length b ≡ n → length r ≡ n →
    ((k : ℕ) → k < n → get_or r k 0 ≡ get_or a k 0 + get_or b k 0) → r ≡ plus a b
is_plus a b r n ha hb hr each =
    let hp = length-plus a b (omega arith) in
    ext_get_or 0 r (plus a b) (omega arith) (λ k h. each k (omega arith) ∙ sym (amount-plus a b k))

-- a list of the amounts of the difference is the difference
pub is_less : (a b r : List ℕ) (n : ℕ) → length a ≡ n → length r ≡ n →
    ((k : ℕ) → k < n → get_or r k 0 ≡ get_or a k 0 - get_or b k 0) → r ≡ less a b
is_less a b r n ha hr each =
    let hl = length-less a b in
    ext_get_or 0 r (less a b) (omega arith) (λ k h. each k (omega arith) ∙ sym (amount-less a b k))

-- a list of the amounts after an exchange is the vector after it
pub is_exchanged : (old new a r : List ℕ) (n : ℕ) → length a ≡ n → length new ≡ n → length r ≡ n →
    ((k : ℕ) → k < n → get_or r k 0 ≡ (get_or a k 0 - get_or old k 0) + get_or new k 0) → r ≡ amounts_exchanged old new a
is_exchanged old new a r n ha hn hr each =
    is_plus (less a old) new r n (length-less a old ∙ ha) hn hr (λ k h. omega (arith, each k h, amount-less a old k))

-- only the amounts that a list has count for its bound
pub within_below : (bound : ℕ) (v : List ℕ) → ((k : ℕ) → k < length v → get_or v k 0 ≤ bound) → IsWithin bound v
within_below bound v each k =
    elim (cases_lt k (length v)) [
      | inl h ↦ each k h
      | inr h ↦ omega (arith, get_or_past v k 0 h)
    ]

-- and what is exchanged for so many times another vector
pub exchanged_fits : (old new a most : List ℕ) (factor n : ℕ) → length a ≡ n → length new ≡ n →
    ((k : ℕ) → k < n → (amount a k - amount old k) + amount new k ≤ factor * amount most k) → FitsTimes (amounts_exchanged old new a) factor most
exchanged_fits old new a most factor n ha hn each k =
    let long = length-plus (less a old) new (length-less a old ∙ ha ∙ sym hn) in
    elim (cases_lt k n) [
      | inl h ↦ omega (arith, each k h, amount-exchanged old new a k)
      | inr h ↦ omega (arith, get_or_past (amounts_exchanged old new a) k 0 (omega (arith, h, long, length-less a old)))
    ]

-- the test of a bound, and what it says
pub within_from_test : (bound : ℕ) (v : List ℕ) → is_within bound v ≡ true → IsWithin bound v
within_from_test bound [] h k = omega arith
within_from_test bound (x ∷ v) h zero =
    let both = and_parts (nat_le x bound) (is_within bound v) h in
    leb-true x bound both.0
within_from_test bound (x ∷ v) h (suc k) =
    let both = and_parts (nat_le x bound) (is_within bound v) h in
    within_from_test bound v both.1 k

pub test_from_within : (bound : ℕ) (v : List ℕ) → IsWithin bound v → is_within bound v ≡ true
test_from_within bound [] h = refl
test_from_within bound (x ∷ v) h =
    rw (le-leb x bound (h 0), test_from_within bound v (λ k. h (suc k))) refl

-- a list of the raised amounts is the vector rounded up
pub is_rounded : (v step most r : List ℕ) (n : ℕ) → length r ≡ n →
    ((k : ℕ) → k < n → get_or r k 0 ≡ min (raised_amount (get_or v k 0) (get_or step k 0)) (get_or most k 0)) → r ≡ round_up n v step most
is_rounded v step most r n hr each =
    let f = λ (k : ℕ). min (raised_amount (amount v k) (amount step k)) (amount most k) in
    let long : length (round_up n v step most) ≡ n = length-map-range_with_len f 0 n in
    ext_get_or 0 r (round_up n v step most) (hr ∙ sym long) (λ k h. each k (omega (arith, hr)) ∙ sym (get_or-map-range_with_len f 0 n k k 0 (omega (arith, hr)) (omega arith)))
