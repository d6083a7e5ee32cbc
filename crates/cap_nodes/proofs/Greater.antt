-- The greater of two amounts of each resource.
use Rattle.cap_nodes.proofs.Prelude.{◌≡◌, ℕ, ◌<◌, ◌≤◌, List, length, arith, get_or, get_or_past, inl, inr, cases_lt, Fits, IsVector}
use Rattle.std.specs.Prelude.{max}

-- a vector of which each amount is the greater of those of two others
pub record IsGreater (n bound : ℕ) (a b r : List ℕ) : Type 0 where
  pub vector : IsVector n bound r
  pub first : Fits a r
  pub second : Fits b r

pub greater_is : (n bound : ℕ) (a b r : List ℕ) → IsVector n bound a → IsVector n bound b → length r ≡ n → ((k : ℕ) → k < n → get_or r k 0 ≡ max (get_or a k 0) (get_or b k 0)) → IsGreater n bound a b r
greater_is n bound a b r of_a of_b long each = record { vector = record { count = long; within = within }; first = first; second = second }
  where
    within : (k : ℕ) → get_or r k 0 ≤ bound
    within k = elim (cases_lt k n) [
      | inl h ↦ let e = each k h in let x = of_a.within k in let y = of_b.within k in omega (arith, e, x, y)
      | inr h ↦ let e = get_or_past r k 0 (omega (arith, h, long)) in omega (arith, e)
    ]

    first : (k : ℕ) → get_or a k 0 ≤ get_or r k 0
    first k = elim (cases_lt k n) [
      | inl h ↦ let e = each k h in omega (arith, e)
      | inr h ↦ let m = of_a.count in let e = get_or_past a k 0 (omega (arith, h, m)) in omega (arith, e)
    ]

    second : (k : ℕ) → get_or b k 0 ≤ get_or r k 0
    second k = elim (cases_lt k n) [
      | inl h ↦ let e = each k h in omega (arith, e)
      | inr h ↦ let m = of_b.count in let e = get_or_past b k 0 (omega (arith, h, m)) in omega (arith, e)
    ]
