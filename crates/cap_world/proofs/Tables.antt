-- A table in which nothing was written.
use Rattle.cap_world.proofs.Prelude.{◌≡◌, Bool, List, [], ◌∷◌, Some, refl, sym, ap, inl, inr, lookup, set_value, cases_Bool}

-- the value that was found is written back
pub set_value_same : {K X : Type 0} (test : K → Bool) (es : List (K × X)) (w : X) → lookup test es ≡ Some w → set_value test es w ≡ es
set_value_same test [] w at = refl
set_value_same {K} {X} test (e ∷ es) w at =
    elim (cases_Bool (test e.0)) [
      | inl t ↦
          let same : e.1 ≡ w = let found : Some e.1 ≡ Some w = rw t at at in cc in
          rw t (ap (λ (x : X). let y : K × X = (e.0, x) in y ∷ es) (sym same))
      | inr f ↦ rw f (ap (λ (xs : List (K × X)). e ∷ xs) (set_value_same test es w (rw f at at)))
    ]
