-- Where the lists of a payload stand, and which are not empty.
use Rattle.cap_grammar.proofs.Prelude.{Bool, List, None, Option, Some, [], ap, arith, drop, inl, inr, length, subst, suc, sym, take, true, zero, ℕ, ◌+◌, ◌<◌, ◌∙◌, ◌∷◌, ◌≡◌, ◌⊎◌, drop-drop, lt-ltb, Width, byte_len, from_be_bytes, w16, w32, w64, if◌then◌else◌, nat_le, nat_lt, slice_index, holds_of, resources, HasItemsAt, ListsItems, byte_at, number_at, pair_at, passing_at, times_at, counted_at, CarriesItems, a_head, is_version}
use Rattle.cap_grammar.proofs.FieldLaws.{bind_then, guard_else, guard_then}
use Rattle.cap_grammar.proofs.VersionLaws.{one_or_two}

-- what stands after a number
pub number_rest : (w : Width) (bytes : List ℕ) (n : ℕ) (rest : List ℕ) → number_at w bytes ≡ Some (n, rest) → rest ≡ drop (byte_len w) bytes
number_rest w bytes n rest e =
    let both = guard_else (nat_lt (length bytes) (byte_len w)) (from_be_bytes w (take (byte_len w) bytes), drop (byte_len w) bytes) (n, rest) e in
    sym (ap (λ (p : ℕ × List ℕ). p.1) both.1)

-- a number that passed a test
passed : (w : Width) (test : ℕ → Bool) (bytes : List ℕ) (n : ℕ) (rest : List ℕ) → passing_at test (number_at w) bytes ≡ Some (n, rest) → number_at w bytes ≡ Some (n, rest)
passed w test bytes n rest e =
    bind_then (number_at w bytes) (λ x. if test x.0 then Some x else None) (n, rest) e (λ x at is. at ∙ (guard_then (test x.0) (Some x) (n, rest) is).1)

-- a list whose length is not 0
pub has_items : (w : Width) (test : ℕ → Bool) (bytes : List ℕ) (n : ℕ) (rest : List ℕ) → passing_at test (number_at w) bytes ≡ Some (n, rest) → 0 < n → HasItemsAt w 0 bytes
has_items w test bytes n rest e some = ap (holds_of (λ x. nat_lt 0 x.0)) (passed w test bytes n rest e) ∙ lt-ltb 0 n some

-- what stands after a list that may be empty
pub items_or_rest : {A : Type 0} (most : ℕ) (field : List ℕ → Option (A × List ℕ)) (bytes : List ℕ) (xs : List A) (rest : List ℕ) → counted_at (number_at w16) most field bytes ≡ Some (xs, rest) → HasItemsAt w16 0 bytes ⊎ (rest ≡ drop 2 bytes)
unfolding counted_at
items_or_rest {A} most field bytes xs rest e =
    bind_then (passing_at (λ n. nat_le n most) (number_at w16) bytes) (λ n. times_at n.0 field n.1) (xs, rest) e (λ n at is. by n.0 n.1 at is)
  where
    by : (n : ℕ) (after : List ℕ) → passing_at (λ n. nat_le n most) (number_at w16) bytes ≡ Some (n, after) → times_at n field after ≡ Some (xs, rest) → HasItemsAt w16 0 bytes ⊎ (rest ≡ drop 2 bytes)
    by zero after at is =
        let same : ([], after) ≡ (xs, rest) = cc is in
        inr (sym (ap (λ (p : List A × List ℕ). p.1) same) ∙ number_rest w16 bytes zero after (passed w16 (λ n. nat_le n most) bytes zero after at))
    by (suc n) after at is = inl (has_items w16 (λ n. nat_le n most) bytes (suc n) after at (omega arith))

-- the same further on in the bytes
pub items_further : (w : Width) (i j : ℕ) (bytes rest : List ℕ) → rest ≡ drop j bytes → HasItemsAt w i rest → HasItemsAt w (j + i) bytes
items_further w i j bytes rest e has = subst (λ (x : List ℕ). holds_of (λ n. nat_lt 0 n.0) (number_at w x) ≡ true) (ap (λ (x : List ℕ). drop i x) e ∙ drop-drop i j bytes) has

-- the lists of a body stand after a number of eight bytes and one of four
pub two_numbers : (bytes first second : List ℕ) (a b : ℕ) → number_at w64 bytes ≡ Some (a, first) → number_at w32 first ≡ Some (b, second) → second ≡ drop 12 bytes
two_numbers bytes first second a b e f = number_rest w32 first b second f ∙ ap (λ (x : List ℕ). drop 4 x) (number_rest w64 bytes a first e) ∙ drop-drop 4 8 bytes

pub first_list : (bytes first second : List ℕ) (a b : ℕ) → number_at w64 bytes ≡ Some (a, first) → number_at w32 first ≡ Some (b, second) → HasItemsAt w16 0 second → HasItemsAt w16 12 bytes
first_list bytes first second a b e f has = items_further w16 0 12 bytes second (two_numbers bytes first second a b e f) has

pub second_list : {A : Type 0} (most : ℕ) (field : List ℕ → Option (A × List ℕ)) (bytes first second third : List ℕ) (a b : ℕ) (xs : List A) → number_at w64 bytes ≡ Some (a, first) → number_at w32 first ≡ Some (b, second) → counted_at (number_at w16) most field second ≡ Some (xs, third)
    → HasItemsAt w16 0 third → HasItemsAt w16 12 bytes ⊎ HasItemsAt w16 14 bytes
second_list most field bytes first second third a b xs e f g has =
    elim (items_or_rest most field second xs third g) [
      | inl some ↦ inl (first_list bytes first second a b e f some)
      | inr after ↦ inr (items_further w16 0 14 bytes third (after ∙ ap (λ (x : List ℕ). drop 2 x) (two_numbers bytes first second a b e f) ∙ drop-drop 2 12 bytes) has)
    ]

-- the version is the first byte, the kind the second, and the body stands after six
head_is : (bytes : List ℕ) (h : ℕ × (ℕ × ℕ)) (rest : List ℕ) → a_head.read bytes ≡ Some (h, rest) → (slice_index bytes 0 ≡ h.0) × (slice_index bytes 1 ≡ h.1.0) × (rest ≡ drop 6 bytes)
unfolding a_head
head_is [] h rest e = absurd (cc e)
head_is (v ∷ []) h rest e = absurd (cc e)
head_is (v ∷ k ∷ bytes) h rest e =
    bind_then (pair_at byte_at (number_at w32) (k ∷ bytes)) (λ y. Some ((v, y.0), y.1)) (h, rest) e (λ y at_y is.
    bind_then (number_at w32 bytes) (λ z. Some ((k, z.0), z.1)) y at_y (λ z at_z is'.
    let pair-is : ((k, z.0), z.1) ≡ y = cc is' in
    let head-is : ((v, y.0), y.1) ≡ (h, rest) = cc is in
    let rest-is : z.1 ≡ rest = ap (λ (p : (ℕ × ℕ) × List ℕ). p.1) pair-is ∙ ap (λ (p : (ℕ × (ℕ × ℕ)) × List ℕ). p.1) head-is in (
      ap (λ (p : (ℕ × (ℕ × ℕ)) × List ℕ). p.0.0) head-is,
      ap (λ (p : (ℕ × ℕ) × List ℕ). p.0.0) pair-is ∙ ap (λ (p : (ℕ × (ℕ × ℕ)) × List ℕ). p.0.1.0) head-is,
      sym rest-is ∙ number_rest w32 bytes z.0 z.1 at_z,
    )))

pub carries_items : (bytes : List ℕ) (h : ℕ × (ℕ × ℕ)) (rest : List ℕ) → a_head.read bytes ≡ Some (h, rest) → is_version resources h.0 ≡ true → ListsItems h.1.0 rest → CarriesItems bytes
carries_items bytes h rest e is lists =
    let (version, kind, body) = head_is bytes h rest e in
    (rw version (one_or_two resources h.0 is), rw (kind, ← body) lists)
