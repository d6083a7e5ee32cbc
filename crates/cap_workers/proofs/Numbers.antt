-- What stands at the place of its number.
use Rattle.std.proofs.Common.{◌≡◌, ◌∙◌, ℕ, ◌<◌, List, [], ◌∷◌, ap, arith, sym, map, ◌+◌}
use Rattle.std.specs.Prelude.{slice_index_or}
use Rattle.std.proofs.Math.ListN.{get_or, get_or-map}
use Rattle.std.proofs.lemmas.List.FromFn.{get_or-range_with_len}

-- of eight that are numbered from 0, the one at this place has its number
pub number_at : {A : Type 0} (f : A → ℕ) (xs : List A) (w : ℕ) (d : A) → map f xs ≡ 0 ∷ 1 ∷ 2 ∷ 3 ∷ 4 ∷ 5 ∷ 6 ∷ 7 ∷ [] → w < 8 → f (slice_index_or xs w d) ≡ w
number_at f xs w d numbered less =
    let place : 0 + w ≡ w = omega arith in
    sym (get_or-map f xs w d) ∙ ap (λ (ns : List ℕ). get_or ns w (f d)) numbered ∙ get_or-range_with_len 0 8 w (f d) less ∙ place
