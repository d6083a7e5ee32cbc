-- Names of a list, one after the other.
use Rattle.cap_config.proofs.Prelude.{◌≡◌, ℕ, ◌<◌, List, [], ◌∷◌, ◌++◌, append_assoc, length, Bool, true, false, cond, eqb, not, Option, Some, None, refl, sym, ap, ◌∙◌, arith, ◌&&◌, map, list_all, slice_split, append-nil, trimmed_bytes, lacks, IsCut, contains_bytes, is_next, is_name_under, are_new, names_for, names_of, name_under, split_cut, split_uncut}

-- the names of the parts, after those before
abbrev pub names_from : List ℕ → List (List ℕ) → List (List ℕ) → Option (List (List ℕ))
names_from path before [] = Some before
names_from path before (part ∷ parts) = cond (is_next path before (trimmed_bytes part)) (names_from path (before ++ trimmed_bytes part ∷ []) parts) None

both_pass : {X : Type 0} (here seen all apart : Bool) (x y : X) (rest : Option X) → rest ≡ cond (all && apart) (Some x) None → x ≡ y →
    cond (here && not seen) rest None ≡ cond ((here && all) && (not seen && apart)) (Some y) None
both_pass true true true apart x y rest is e = refl
both_pass true true false apart x y rest is e = refl
both_pass true false true apart x y rest is e = rw (is, e) refl
both_pass true false false apart x y rest is e = is
both_pass false seen all apart x y rest is e = refl

pub names_from_is : (path : List ℕ) (before parts : List (List ℕ)) →
    names_from path before parts
    ≡ cond (list_all (is_name_under path) (map trimmed_bytes parts) && are_new before (map trimmed_bytes parts)) (Some (before ++ map trimmed_bytes parts)) None
names_from_is path before [] = ap Some (sym (append-nil before))
names_from_is path before (part ∷ parts) =
    both_pass (is_name_under path (trimmed_bytes part)) (contains_bytes before (trimmed_bytes part)) (list_all (is_name_under path) (map trimmed_bytes parts))
    (are_new (before ++ trimmed_bytes part ∷ []) (map trimmed_bytes parts)) ((before ++ trimmed_bytes part ∷ []) ++ map trimmed_bytes parts) (before ++ trimmed_bytes part ∷ map trimmed_bytes parts) _
    (names_from_is path (before ++ trimmed_bytes part ∷ []) parts)
    (append_assoc before (trimmed_bytes part ∷ []) (map trimmed_bytes parts))

pub names_for_is : (path bytes : List ℕ) → 0 < length bytes → names_from path [] (slice_split (λ b. eqb b 44) bytes) ≡ names_for path bytes
unfolding names_for names_of
names_for_is path [] h = absurd (omega arith)
names_for_is path (b ∷ bytes) h = names_from_is path [] (slice_split (λ c. eqb c 44) (b ∷ bytes))

pub cut_yes : (path : List ℕ) (before : List (List ℕ)) (bytes front rest : List ℕ) → IsCut 44 bytes front rest → is_next path before (trimmed_bytes front) ≡ true →
    names_from path before (slice_split (λ b. eqb b 44) bytes) ≡ names_from path (before ++ trimmed_bytes front ∷ []) (slice_split (λ b. eqb b 44) rest)
cut_yes path before bytes front rest cut h = ap (names_from path before) (split_cut 44 bytes front rest cut) ∙ rw h refl

pub cut_no : (path : List ℕ) (before : List (List ℕ)) (bytes front rest : List ℕ) → IsCut 44 bytes front rest → is_next path before (trimmed_bytes front) ≡ false →
    names_from path before (slice_split (λ b. eqb b 44) bytes) ≡ None
cut_no path before bytes front rest cut h = ap (names_from path before) (split_cut 44 bytes front rest cut) ∙ rw h refl

pub last_yes : (path : List ℕ) (before : List (List ℕ)) (bytes : List ℕ) → lacks 44 bytes ≡ true → is_next path before (trimmed_bytes bytes) ≡ true →
    names_from path before (slice_split (λ b. eqb b 44) bytes) ≡ Some (before ++ trimmed_bytes bytes ∷ [])
last_yes path before bytes none h = ap (names_from path before) (split_uncut 44 bytes none) ∙ rw h refl

pub last_no : (path : List ℕ) (before : List (List ℕ)) (bytes : List ℕ) → lacks 44 bytes ≡ true → is_next path before (trimmed_bytes bytes) ≡ false →
    names_from path before (slice_split (λ b. eqb b 44) bytes) ≡ None
last_no path before bytes none h = ap (names_from path before) (split_uncut 44 bytes none) ∙ rw h refl

under_by : (test : Bool) (name found : List ℕ) → cond test (Some name) None ≡ Some found → (test ≡ true) × (found ≡ name)
under_by true name found h = (refl, sym (cc h))
under_by false name found h = absurd (cc h)

under_none : (test : Bool) (name : List ℕ) → cond test (Some name) None ≡ None → test ≡ false
under_none true name h = absurd (cc h)
under_none false name h = refl

pub name_under_some : (path name found : List ℕ) → name_under path name ≡ Some found → (is_name_under path name ≡ true) × (found ≡ name)
unfolding name_under
name_under_some path name found h = under_by (is_name_under path name) name found h

pub name_under_none : (path name : List ℕ) → name_under path name ≡ None → is_name_under path name ≡ false
unfolding name_under
name_under_none path name h = under_none (is_name_under path name) name h
