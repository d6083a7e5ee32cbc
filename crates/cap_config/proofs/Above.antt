-- The paths above a path.
use Rattle.cap_config.proofs.Prelude.{◌≡◌, ℕ, suc, ◌+◌, ◌<◌, List, [], ◌∷◌, length, take, Bool, true, false, Option, Some, None, refl, sym, ◌∙◌, arith, add-one, length-take-le, same_Some, some_pair_parts, last_dot, dot_or, is_dot, parts_at_last_dot, parts_round, above}
use Rattle.cap_config.proofs.Children.{dotless_cons}

above_no : (bytes : List ℕ) → last_dot bytes ≡ None → above bytes ≡ []
unfolding above
above_no [] h = refl
above_no (b ∷ bytes) h =
    let both = dotless_cons (is_dot b) (last_dot bytes) h in
    let first = both.0 in
    let rest = above_no bytes both.1 in
    rw (rest, first) refl

above_cons : (b : ℕ) (bytes : List ℕ) (first : Bool) (r : Option ℕ) (i : ℕ) → is_dot b ≡ first → dot_or first r ≡ Some i →
    ((j : ℕ) → r ≡ Some j → (j < length bytes) × (above bytes ≡ take j bytes ∷ above (take j bytes))) → (r ≡ None → above bytes ≡ []) →
    (i < length (b ∷ bytes)) × (above (b ∷ bytes) ≡ take i (b ∷ bytes) ∷ above (take i (b ∷ bytes)))
unfolding above
above_cons b bytes first (Some j) i dot h some none =
    let e : suc j ≡ i = sym (add-one j) ∙ same_Some (j + 1) i h in
    let is = some j refl in
    let l = is.0 in
    (omega arith, rw (← e, is.1) refl)
above_cons b bytes true None i dot h some none =
    let e : 0 ≡ i = same_Some 0 i h in
    (omega arith, rw (← e, none refl, dot) refl)
above_cons b bytes false None i dot h some none = absurd (cc h)

above_at : (bytes : List ℕ) (i : ℕ) → last_dot bytes ≡ Some i → (i < length bytes) × (above bytes ≡ take i bytes ∷ above (take i bytes))
above_at [] i h = absurd (cc h)
above_at (b ∷ bytes) i h = above_cons b bytes (is_dot b) (last_dot bytes) i refl h (above_at bytes) (above_no bytes)

-- what the path above is
pub record IsParent (path parent : List ℕ) : Type 0 where
  pub shorter : length parent < length path
  pub above : above path ≡ parent ∷ above parent

round_some : (r : Option ℕ) (path parent name : List ℕ) → parts_round r path ≡ Some (parent, name) → (i : ℕ) × (r ≡ Some i) × (parent ≡ take i path)
round_some (Some i) path parent name h = (i, refl, sym (some_pair_parts _ _ _ _ h).0)
round_some None path parent name h = absurd (cc h)

round_none : (r : Option ℕ) (path : List ℕ) → parts_round r path ≡ None → r ≡ None
round_none (Some i) path h = absurd (cc h)
round_none None path h = refl

pub parent_is : (path parent name : List ℕ) → parts_at_last_dot path ≡ Some (parent, name) → IsParent path parent
unfolding parts_at_last_dot
parent_is path parent name h =
    let at = round_some (last_dot path) path parent name h in
    let is = above_at path at.0 at.1 in
    let l = is.0 in
    record {
      shorter = rw at.2 (omega (arith, length-take-le at.0 path (omega arith)));
      above = rw at.2 is.1;
    }

pub no_parent : (path : List ℕ) → parts_at_last_dot path ≡ None → above path ≡ []
unfolding parts_at_last_dot
no_parent path h = above_no path (round_none (last_dot path) path h)
