-- One more number among numbers in order, and one less.
use Rattle.std.proofs.Common.{◌≡◌, ℕ, ◌+◌, ◌<◌, ◌≤◌, Bool, true, false, cond, List, [], ◌∷◌, length, refl, ◌∙◌, ap, inl, inr, arith}
use Rattle.std.specs.Prelude.{◌==◌, not, nat_lt}
use Rattle.std.proofs.lemmas.Bool.Decides.{nat_tests}
use Rattle.cap_base.specs.Members.{IsIn, IsRising}
use Rattle.cap_tree.specs.Numbers.{AreNumbers, with_number, without_number}

pub length-with_number : (n : ℕ) (ns : List ℕ) → length (with_number n ns) ≡ length ns + 1
length-with_number n [] = refl
length-with_number n (m ∷ ns) = by (nat_lt m n) (length-with_number n ns)
  where
    by : (b : Bool) → length (with_number n ns) ≡ length ns + 1 → length (cond b (m ∷ with_number n ns) (n ∷ m ∷ ns)) ≡ length (m ∷ ns) + 1
    by true r = omega (arith, r)
    by false r = omega arith

-- a number that stands among numbers in order is no less than the lower bound
pub at_least : (low end n : ℕ) (ns : List ℕ) → IsRising low ns end → IsIn n ns → low ≤ n
at_least low end n [] h m = absurd m
at_least low end n (k ∷ ns) h (inl same) = let first = h.0 in omega (arith, first, same)
at_least low end n (k ∷ ns) h (inr m) = let r = at_least (k + 1) end n ns h.1 m in let first = h.0 in omega (arith, r, first)

pub none_without : (n low end : ℕ) (ns : List ℕ) → n < low → IsRising low ns end → without_number n ns ≡ ns
none_without n low end [] lt h = refl
none_without n low end (k ∷ ns) lt h =
    let first = h.0 in
    let other : (k == n) ≡ false = grind (arith, nat_tests, first, lt) in
    ap (λ b. cond (not b) (k ∷ without_number n ns) (without_number n ns)) other ∙ ap (λ ks. k ∷ ks) (none_without n (k + 1) end ns (omega (arith, first, lt)) h.1)

one_without : (n low end : ℕ) (ns : List ℕ) → IsRising low ns end → IsIn n ns → length (without_number n ns) + 1 ≡ length ns
one_without n low end [] h m = absurd m
one_without n low end (k ∷ ns) h (inl same) =
    let is : (k == n) ≡ true = grind (arith, nat_tests, same) in
    let rest = none_without n (k + 1) end ns (omega (arith, same)) h.1 in
    let e = ap (λ b. cond (not b) (k ∷ without_number n ns) (without_number n ns)) is ∙ rest in
    let l = ap length e in
    omega (arith, l)
one_without n low end (k ∷ ns) h (inr m) =
    let more = at_least (k + 1) end n ns h.1 m in
    let other : (k == n) ≡ false = grind (arith, nat_tests, more) in
    let e = ap length (ap (λ b. cond (not b) (k ∷ without_number n ns) (without_number n ns)) other) in
    let r = one_without n (k + 1) end ns h.1 m in
    omega (arith, e, r)

pub length-without_number : (n : ℕ) (ns : List ℕ) → AreNumbers ns → IsIn n ns → length (without_number n ns) + 1 ≡ length ns
length-without_number n ns a m = one_without n 1 a.end ns a.rise m

-- numbers in order stay so
rising_with : (n low end : ℕ) (ns : List ℕ) → low ≤ n → IsRising low ns end → ¬ IsIn n ns → (high : ℕ) × IsRising low (with_number n ns) high
rising_with n low end [] le h out = (n + 1, (le, omega arith))
rising_with n low end (k ∷ ns) le h out = by (nat_lt k n) refl (λ less. rising_with n (k + 1) end ns less h.1 (λ m. out (inr m)))
  where
    by : (b : Bool) → nat_lt k n ≡ b → (k + 1 ≤ n → (high : ℕ) × IsRising (k + 1) (with_number n ns) high) → (high : ℕ) × IsRising low (cond b (k ∷ with_number n ns) (n ∷ k ∷ ns)) high
    by true e f =
        let r = f (grind (arith, nat_tests, e)) in
        (r.0, (h.0, r.1))
    by false e f =
        let other : k ≡ n → ⊥ = λ same. out (inl same) in
        let most : n ≤ k = grind (arith, nat_tests, e) in
        (end, (le, (omega (arith, most, other), h.1)))

pub numbers_with : (n : ℕ) (ns : List ℕ) → AreNumbers ns → 1 ≤ n → ¬ IsIn n ns → AreNumbers (with_number n ns)
numbers_with n ns a some out = let r = rising_with n 1 a.end ns some a.rise out in record { end = r.0; rise = r.1 }

lower : (low more end : ℕ) (ns : List ℕ) → low ≤ more → IsRising more ns end → IsRising low ns end
lower low more end [] le h = omega (arith, le, h)
lower low more end (k ∷ ns) le h = let first = h.0 in (omega (arith, le, first), h.1)

rising_without : (n low end : ℕ) (ns : List ℕ) → IsRising low ns end → IsRising low (without_number n ns) end
rising_without n low end [] h = h
rising_without n low end (k ∷ ns) h = by (k == n) (rising_without n (k + 1) end ns h.1)
  where
    by : (b : Bool) → IsRising (k + 1) (without_number n ns) end → IsRising low (cond (not b) (k ∷ without_number n ns) (without_number n ns)) end
    by true r = let first = h.0 in lower low (k + 1) end (without_number n ns) (omega (arith, first)) r
    by false r = (h.0, r)

pub numbers_without : (n : ℕ) (ns : List ℕ) → AreNumbers ns → AreNumbers (without_number n ns)
numbers_without n ns a = record { end = a.end; rise = rising_without n 1 a.end ns a.rise }
