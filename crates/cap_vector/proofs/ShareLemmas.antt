-- The shares of a use, one by one.
use Rattle.std.proofs.Common.{◌≡◌, ℕ, zero, suc, ◌<◌, List, [], ◌∷◌, length, get_or, refl, sym, ◌∙◌, arith}
use Rattle.std.proofs.lemmas.List.{ext_get_or}
use Rattle.cap_vector.specs.declared.fullness.Share.{Share}
use Rattle.cap_vector.specs.Fullness.{fractions}

pub length-fractions : (us gs : List ℕ) → length us ≡ length gs → length (fractions us gs) ≡ length us
length-fractions [] gs h = refl
length-fractions (u ∷ us) [] h = absurd (omega arith)
length-fractions (u ∷ us) (g ∷ gs) h = let r = length-fractions us gs (omega arith) in omega arith

get_or-fractions : (us gs : List ℕ) (k : ℕ) (d : Share) → length us ≡ length gs → k < length us → get_or (fractions us gs) k d ≡ record { used = get_or us k 0; guaranteed = get_or gs k 0 }
get_or-fractions [] gs k d e h = absurd (omega arith)
get_or-fractions (u ∷ us) [] k d e h = absurd (omega arith)
get_or-fractions (u ∷ us) (g ∷ gs) zero d e h = refl
get_or-fractions (u ∷ us) (g ∷ gs) (suc k) d e h = get_or-fractions us gs k d (omega arith) (omega arith)

-- a list of those fractions is the fractions
pub are_fractions : (us gs : List ℕ) (ss : List Share) (n : ℕ) → length us ≡ n → length gs ≡ n → length ss ≡ n →
    ((k : ℕ) → k < n → get_or ss k (record { used = 0; guaranteed = 0 }) ≡ record { used = get_or us k 0; guaranteed = get_or gs k 0 }) → ss ≡ fractions us gs
are_fractions us gs ss n hu hg hs each =
    let l = length-fractions us gs (omega arith) in
    ext_get_or (record { used = 0; guaranteed = 0 }) ss (fractions us gs) (omega arith)
    (λ k h. each k (omega arith) ∙ sym (get_or-fractions us gs k (record { used = 0; guaranteed = 0 }) (omega arith) (omega arith)))
