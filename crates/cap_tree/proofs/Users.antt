-- What is counted of users, and the entries of the map that holds it.
use Rattle.cap_tree.proofs.Prelude.{◌≡◌, ℕ, suc, ◌+◌, add-one, false, cond, List, [], ◌∷◌, drop, drop-cons, get_or, slice_get, slice_get-get_or, slice_get_within, Option, Some, None, refl, sym, ◌∙◌, bytes_eq, if◌then◌else◌, lookup, nat_cmp, slice_cmp, nat_list_cmp_total, from_entries, get-from_entries, is_eq-slice_cmp, bytes_turned, Count, is_zero_count, Users, user_row, with_count, same_users, user_row-with_count}
use Rattle.std.specs.FinMap.Entries.{find}

-- the users of some entries

abbrev pub users_of : List (List ℕ × Count) → Users
users_of es = from_entries es

found : (user : List ℕ) (es : List (List ℕ × Count)) → find (slice_cmp nat_cmp) user es ≡ lookup (bytes_eq user) es
found user [] = refl
found user (e ∷ es) = λ i. cond (is_eq-slice_cmp user e.0 i) (Some e.1) (found user es i)

pub user_row-entries : (user : List ℕ) (es : List (List ℕ × Count)) → user_row user (users_of es) ≡ lookup (bytes_eq user) es
user_row-entries user es = get-from_entries nat_list_cmp_total es user ∙ found user es

-- an entry of another user is passed over
pub passed_over : (user : List ℕ) (es : List (List ℕ × Count)) (i : ℕ) (name : List ℕ) (count : Count) → Some (name, count) ≡ slice_get es i → bytes_eq name user ≡ false → lookup (bytes_eq user) (drop (i + 1) es) ≡ lookup (bytes_eq user) (drop i es)
passed_over user es i name count at other =
    let within = slice_get_within es i (name, count) (sym at) in
    let entry : get_or es i (name, count) ≡ (name, count) = (let e = slice_get-get_or es i (name, count) within in cc (e, at)) in
    rw (add-one, drop-cons es i (name, count) within, entry) (sym (λ k. cond ((bytes_turned user name ∙ other) k) (Some count) (lookup (bytes_eq user) (drop (suc i) es))))

-- entries that have a user's count, or none where it is nothing, and else those of the others
pub counted-entries : (user : List ℕ) (c : Count) (w : Option Count) (es es' : List (List ℕ × Count)) → w ≡ (if is_zero_count c then None else Some c) →
    ((q : List ℕ) → lookup (bytes_eq q) es' ≡ cond (bytes_eq user q) w (lookup (bytes_eq q) es)) → users_of es' ≡ with_count user c (users_of es)
counted-entries user c w es es' is h =
    same_users (users_of es') (with_count user c (users_of es)) (λ q.
    user_row-entries q es' ∙ h q
    ∙ (λ i. cond (bytes_turned user q i) (is i) (sym (user_row-entries q es) i))
    ∙ sym (user_row-with_count q user c (users_of es)))
