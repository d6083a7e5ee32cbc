-- A resource of three amounts.
use Rattle.cap_config.proofs.Prelude.{◌≡◌, ℕ, zero, suc, ◌≤◌, List, [], ◌∷◌, true, false, Option, Some, None, refl, ap, arith, ◌↔◌, IfSome, IsSome, false_from_ne_true, nat_tests, resources, IsVector, IsWithin, amount_max, is_within, resource}

three_within : (m v g : ℕ) → m ≤ amount_max → v ≤ amount_max → g ≤ amount_max → IsWithin amount_max (m ∷ v ∷ g ∷ [])
three_within m v g hm hv hg zero = hm
three_within m v g hm hv hg (suc zero) = hv
three_within m v g hm hv hg (suc (suc zero)) = hg
three_within m v g hm hv hg (suc (suc (suc k))) = omega arith

pub three_are_vector : (m v g : ℕ) → m ≤ amount_max → v ≤ amount_max → g ≤ amount_max → IsVector resources amount_max (m ∷ v ∷ g ∷ [])
three_are_vector m v g hm hv hg = record { count = refl; within = three_within m v g hm hv hg }

-- three amounts are a resource where each is within the bound
are_vector : (m v g : ℕ) → is_within amount_max (m ∷ v ∷ g ∷ []) ≡ true → IsVector resources amount_max (m ∷ v ∷ g ∷ [])
are_vector m v g h = three_are_vector m v g (grind (arith, nat_tests)) (grind (arith, nat_tests)) (grind (arith, nat_tests))

are_within : (m v g : ℕ) → IsVector resources amount_max (m ∷ v ∷ g ∷ []) → is_within amount_max (m ∷ v ∷ g ∷ []) ≡ true
are_within m v g h =
    let hm : m ≤ amount_max = h.within 0 in
    let hv : v ≤ amount_max = h.within 1 in
    let hg : g ≤ amount_max = h.within 2 in
    grind (arith, nat_tests)

pub resource_is : (m v g : ℕ) (r : Option (List ℕ)) → IfSome r (λ x. x ≡ m ∷ v ∷ g ∷ []) → (IsSome r ↔ IsVector resources amount_max (m ∷ v ∷ g ∷ [])) →
    r ≡ resource (Some m) (Some v) (Some g)
unfolding resource
resource_is m v g None some iff =
    let no : is_within amount_max (m ∷ v ∷ g ∷ []) ≡ false = false_from_ne_true _ (λ yes. absurd (cc (iff.1 (are_vector m v g yes)))) in
    rw no refl
resource_is m v g (Some x) some iff = rw (are_within m v g (iff.0 refl)) (ap Some some)
