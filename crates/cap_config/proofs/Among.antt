-- Byte strings in a list.
use Rattle.cap_config.proofs.Prelude.{◌≡◌, ℕ, List, [], ◌∷◌, ◌++◌, Bool, true, false, cond, Option, Some, None, refl, ap, ◌∙◌, ◌||◌, is_some, bytes_eq, list_any-append, contains_bytes}

or-false : (b : Bool) → (b || false) ≡ b
or-false true = refl
or-false false = refl

pub among_push : (keys : List (List ℕ)) (key q : List ℕ) → contains_bytes (keys ++ key ∷ []) q ≡ (contains_bytes keys q || bytes_eq key q)
among_push keys key q = list_any-append _ keys (key ∷ []) ∙ ap (λ b. contains_bytes keys q || b) (or-false (bytes_eq key q))

-- what is there after a key was set
pub there_after : {X : Type 0} (here : Bool) (o w r : Option X) → is_some w ≡ true → r ≡ cond here w o → is_some r ≡ (is_some o || here)
there_after true (Some y) w r full e = ap is_some e ∙ full
there_after true None w r full e = ap is_some e ∙ full
there_after false (Some y) w r full e = ap is_some e
there_after false None w r full e = ap is_some e
