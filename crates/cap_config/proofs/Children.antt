-- The path of a queue below another, and how deep it is.
use Rattle.cap_config.proofs.Prelude.{◌≡◌, ℕ, suc, ◌+◌, List, [], ◌∷◌, ◌++◌, append_assoc, length, take, drop, Bool, true, false, cond, Option, Some, None, refl, sym, ap, ◌∙◌, subst, inl, inr, arith, add-one, count_by, list_all, eqb-true, nat_tests, sum_by-cons, sum_by-append, length-slice_split, same_Some, some_pair_parts, take-append_seam, is_child_of, IsUnder, has_dot, before_no_dot, its_child, last_dot, dot_or, is_dot, is_name, is_name_byte, parts_at_last_dot, parts_round, child, level, is_name_under}
use Rattle.cap_config.proofs.Found.{both}

-- a path, cut at its last dot
pub record IsCutAt (path parent name : List ℕ) : Type 0 where
  pub whole : path ≡ child parent name
  pub dotless : last_dot name ≡ None

cut_cons : (b : ℕ) (bytes : List ℕ) (first : Bool) (r : Option ℕ) (i : ℕ) → is_dot b ≡ first → last_dot bytes ≡ r → dot_or first r ≡ Some i →
    ((j : ℕ) → r ≡ Some j → IsCutAt bytes (take j bytes) (drop (j + 1) bytes)) → IsCutAt (b ∷ bytes) (take i (b ∷ bytes)) (drop (i + 1) (b ∷ bytes))
cut_cons b bytes first (Some j) i dot is h later =
    let e : suc j ≡ i = sym (add-one j) ∙ same_Some (j + 1) i h in
    let cut = later j refl in
    let d : drop (i + 1) (b ∷ bytes) ≡ drop (j + 1) bytes = ap (λ n. drop n (b ∷ bytes)) (add-one i) ∙ ap (λ n. drop n bytes) (sym e ∙ sym (add-one j)) in
    let t : take i (b ∷ bytes) ≡ b ∷ take j bytes = ap (λ n. take n (b ∷ bytes)) (sym e) in
    record {
      whole = ap (λ (x : List ℕ). b ∷ x) cut.whole ∙ rw (t, d) refl;
      dotless = ap last_dot d ∙ cut.dotless;
    }
cut_cons b bytes true None i dot is h later =
    let e : 0 ≡ i = same_Some 0 i h in
    let d : drop (i + 1) (b ∷ bytes) ≡ bytes = ap (λ n. drop (n + 1) (b ∷ bytes)) (sym e) in
    let t : take i (b ∷ bytes) ≡ [] = ap (λ n. take n (b ∷ bytes)) (sym e) in
    record {
      whole = rw (t, d, eqb-true b 46 dot) refl;
      dotless = ap last_dot d ∙ is;
    }
cut_cons b bytes false None i dot is h later = absurd (cc h)

cut_at : (bytes : List ℕ) (i : ℕ) → last_dot bytes ≡ Some i → IsCutAt bytes (take i bytes) (drop (i + 1) bytes)
cut_at [] i h = absurd (cc h)
cut_at (b ∷ bytes) i h = cut_cons b bytes (is_dot b) (last_dot bytes) i refl refl h (cut_at bytes)

cut_by : (r : Option ℕ) (path parent name : List ℕ) → last_dot path ≡ r → parts_round r path ≡ Some (parent, name) → IsCutAt path parent name
cut_by (Some i) path parent name is h =
    let parts = some_pair_parts _ _ _ _ h in
    rw (← parts.0, ← parts.1) (cut_at path i is)
cut_by None path parent name is h = absurd (cc h)

pub cut_is : (path parent name : List ℕ) → parts_at_last_dot path ≡ Some (parent, name) → IsCutAt path parent name
unfolding parts_at_last_dot
cut_is path parent name h = cut_by (last_dot path) path parent name refl h

dot_of_child : (path name : List ℕ) → last_dot name ≡ None → last_dot (child path name) ≡ Some (length path)
dot_of_child [] name h = rw h refl
dot_of_child (b ∷ path) name h = rw (dot_of_child path name h, add-one) refl

pub child_rest : (path name : List ℕ) → drop (length path + 1) (child path name) ≡ name
child_rest [] name = refl
child_rest (b ∷ path) name =
    ap (λ n. drop n (child (b ∷ path) name)) (let e : suc (length path) + 1 ≡ suc (length path + 1) = omega arith in e) ∙ child_rest path name

-- the path of a queue below another is cut there
pub child_parts : (path name : List ℕ) → last_dot name ≡ None → parts_at_last_dot (child path name) ≡ Some (path, name)
unfolding parts_at_last_dot
child_parts path name h =
    let t : take (length path) (child path name) ≡ path = take-append_seam path (46 ∷ name) in
    let d : drop (length path + 1) (child path name) ≡ name = child_rest path name in
    rw (dot_of_child path name h, t, d) refl

pub dotless_cons : (first : Bool) (r : Option ℕ) → dot_or first r ≡ None → (first ≡ false) × (r ≡ None)
dotless_cons first (Some i) h = absurd (cc h)
dotless_cons true None h = absurd (cc h)
dotless_cons false None h = (refl, refl)

pub count_no : (here : Bool) (rest : ℕ) → here ≡ false → cond here 1 0 + rest ≡ rest
count_no true rest h = absurd (cc h)
count_no false rest h = omega arith

no_dots : (bytes : List ℕ) → last_dot bytes ≡ None → count_by is_dot bytes ≡ 0
no_dots [] h = refl
no_dots (b ∷ bytes) h =
    let parts = dotless_cons (is_dot b) (last_dot bytes) h in
    sum_by-cons _ b bytes ∙ count_no (is_dot b) (count_by is_dot bytes) parts.0 ∙ no_dots bytes parts.1

dots_of_child : (path name : List ℕ) → last_dot name ≡ None → count_by is_dot (child path name) ≡ count_by is_dot path + 1
dots_of_child path name h =
    let one : count_by is_dot (46 ∷ name) ≡ 1 = sum_by-cons _ 46 name ∙ ap (λ n. 1 + n) (no_dots name h) in
    sum_by-append _ path (46 ∷ name) ∙ ap (λ n. count_by is_dot path + n) one

-- it is one level deeper
pub level_below : (path parent name : List ℕ) → IsCutAt path parent name → level path ≡ level parent + 1
level_below path parent name cut =
    let e : count_by is_dot path ≡ count_by is_dot parent + 1 = ap (count_by is_dot) cut.whole ∙ dots_of_child parent name cut.dotless in
    length-slice_split is_dot path ∙ ap (λ n. n + 1) e ∙ ap (λ n. n + 1) (sym (length-slice_split is_dot parent))

byte_no_dot : (b : ℕ) → is_name_byte b ≡ true → is_dot b ≡ false
byte_no_dot b h = grind (arith, nat_tests)

bytes_no_dot : (bytes : List ℕ) → list_all is_name_byte bytes ≡ true → last_dot bytes ≡ None
bytes_no_dot [] h = refl
bytes_no_dot (b ∷ bytes) h =
    let parts = both (is_name_byte b) (list_all is_name_byte bytes) h in
    rw (bytes_no_dot bytes parts.1, byte_no_dot b parts.0) refl

-- a name has no dot
pub name_no_dot : (path name : List ℕ) → is_name_under path name ≡ true → last_dot name ≡ None
unfolding is_name
name_no_dot path name h = bytes_no_dot name (both _ _ (both _ _ (both _ _ h).0).1).1

has_none : (name : List ℕ) → last_dot name ≡ None → has_dot name ≡ false
has_none [] h = refl
has_none (b ∷ name) h =
    let parts = dotless_cons (is_dot b) (last_dot name) h in
    rw (parts.0, has_none name parts.1) refl

-- it is the child of that queue
pub child_is : (path name : List ℕ) → last_dot name ≡ None → is_child_of path (child path name) ≡ true
child_is path name none = subst (λ (n : List ℕ). is_child_of path (child path n) ≡ true) (before_no_dot name (has_none name none)) (its_child path name)

-- what is under it is under that queue
pub under_child : (path name queue : List ℕ) → IsUnder (child path name) queue → (rest : List ℕ) × (queue ≡ child path rest)
under_child path name queue (inl e) = (name, e)
under_child path name queue (inr (rest, e)) = (name ++ 46 ∷ rest, e ∙ append_assoc path (46 ∷ name) (46 ∷ rest))
