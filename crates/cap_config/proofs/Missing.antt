-- The first path that is not listed, one queue after another.
use Rattle.cap_config.proofs.Prelude.{◌≡◌, List, [], ◌∷◌, ℕ, Bool, true, false, Option, Some, None, refl, ap, ◌∙◌, ◌&&◌, is_some, not, bytes_eq, option_map, Entry, parts_at_last_dot, root, above, is_below, is_queue, leads_to_root, names_below, contains_bytes, missing_from, missing_or, missing_path}
use denote.Ref.{Bor}
use Rattle.cap_config.proofs.Above.{parent_is, no_parent}

-- a path below another, which lists it or not
pub missing_more : (entries : List Entry) (path parent name : List ℕ) (missing : Option (List ℕ)) (listed : Bool) → parts_at_last_dot path ≡ Some (parent, name) →
    contains_bytes (names_below entries parent) name ≡ listed → missing_from entries path missing (above path) ≡ missing_from entries parent (missing_or listed path missing) (above parent)
missing_more entries path parent name missing listed parts h =
    ap (missing_from entries path missing) (parent_is path parent name parts).above
    ∙ ap (λ b. missing_from entries parent (missing_or b path missing) (above parent)) (ap (is_below entries) parts ∙ h)

pub missing_top : (entries : List Entry) (path : List ℕ) (missing : Option (List ℕ)) (top : Bool) → parts_at_last_dot path ≡ None → bytes_eq path root ≡ top →
    missing_from entries path missing (above path) ≡ missing_or top path missing
missing_top entries path missing top parts h = ap (missing_from entries path missing) (no_parent path parts) ∙ ap (λ b. missing_or b path missing) h

-- whether a path is missing: one was before, or this one is not listed, or one above is not
missing_or_more : (listed : Bool) (path : List ℕ) (missing : Option (List ℕ)) (rest : Bool) → not (not (is_some (missing_or listed path missing)) && rest) ≡ not (not (is_some missing) && (listed && rest))
missing_or_more true path missing rest = refl
missing_or_more false path (Some before) rest = refl
missing_or_more false path None rest = refl

missing_or_not : (top : Bool) (path : List ℕ) (missing : Option (List ℕ)) → is_some (missing_or top path missing) ≡ not (not (is_some missing) && top)
missing_or_not true path (Some before) = refl
missing_or_not true path None = refl
missing_or_not false path (Some before) = refl
missing_or_not false path None = refl

is_missing : (entries : List Entry) (path : List ℕ) (missing : Option (List ℕ)) (more : List (List ℕ)) →
    is_some (missing_from entries path missing more) ≡ not (not (is_some missing) && leads_to_root entries path more)
is_missing entries path missing [] = missing_or_not (bytes_eq path root) path missing
is_missing entries path missing (parent ∷ more) =
    let listed = is_below entries (parts_at_last_dot path) in
    is_missing entries parent (missing_or listed path missing) more ∙ missing_or_more listed path missing (leads_to_root entries parent more)

is_some_map : (o : Option (Bor (List ℕ))) → is_some o ≡ is_some (option_map (λ path. path.now) o)
is_some_map (Some path) = refl
is_some_map None = refl

-- a path is of a queue where none is missing
pub none_missing : (entries : List Entry) (path : List ℕ) (found : Option (Bor (List ℕ))) → option_map (λ path. path.now) found ≡ missing_path entries path → is_some found ≡ not (is_queue entries path)
none_missing entries path found is = is_some_map found ∙ ap is_some is ∙ is_missing entries path None (above path)
