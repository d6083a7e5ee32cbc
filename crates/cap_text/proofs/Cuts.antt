-- Cutting at a separator.
use Rattle.cap_text.proofs.Prelude.{◌≡◌, ℕ, zero, suc, ◌+◌, ◌-◌, ◌<◌, ◌≤◌, List, [], ◌∷◌, ◌++◌, length, get_or, take, drop, length-drop, length-append, take-append-drop, Bool, true, false, cond, eqb, Some, None, Option, refl, sym, ap, ◌∙◌, arith, eq-eqb, not, position, position_or_len, slice_split, All, lines, strip_carriage_return, lines_of_parts, take_all, drop_more, append_cancel_left, eqb-true, not-true, nat_tests, position-Some, AllPass-from_list_all, fails_before_first, slice_split_at, slice_split_none, length-slice_split, lacks, IsCut, IsFirstByte, is_byte, position_or_len_is, false_from_ne_true}

-- the first place of a byte is its `position`
pub first_byte : (byte : ℕ) (bytes : List ℕ) (r : Option ℕ) → IsFirstByte (is_byte byte) bytes r → r ≡ position (λ b. eqb b byte) bytes
first_byte byte bytes None none =
    let end = position_or_len_is (is_byte byte) bytes (length bytes) 0 (omega arith) (λ k l. false_from_ne_true _ (none k (omega arith) l)) (λ l. absurd (omega (arith, l))) in
    rw end (grind (arith, nat_tests))
first_byte byte bytes (Some k) (before, here) =
    let at = position_or_len_is (is_byte byte) bytes k 0 (omega (arith, before.high)) (λ j l. false_from_ne_true _ (before.before j (omega arith) l)) (λ l. here) in
    rw at (grind (arith, nat_tests, before.high))

-- what a slice from a place on is
pub rest_all : (bytes : List ℕ) (n : ℕ) → take (length bytes - n) (drop n bytes) ≡ drop n bytes
rest_all bytes n = take_all (length bytes - n) (drop n bytes) (omega (arith, length-drop n bytes))

lacks_before : (separator : ℕ) (bytes : List ℕ) (n : ℕ) → n ≤ length bytes → ((k : ℕ) → k < n → eqb (get_or bytes k 0) separator ≡ false) → lacks separator (take n bytes) ≡ true
lacks_before separator bytes zero h before = refl
lacks_before separator [] (suc n) h before = refl
lacks_before separator (b ∷ bytes) (suc n) h before =
    rw (before 0 (omega arith), lacks_before separator bytes n (omega arith) (λ k l. before (suc k) (omega arith))) refl

pub cut_found : (separator : ℕ) (bytes : List ℕ) (at : ℕ) → position (λ b. eqb b separator) bytes ≡ Some at →
    IsCut separator bytes (take at bytes) (take (length bytes - (at + 1)) (drop (at + 1) bytes))
cut_found separator bytes at h =
    let is = position-Some (λ b. eqb b separator) bytes at 0 h in
    let here : get_or bytes at 0 ≡ separator = eqb-true (get_or bytes at 0) separator is.1 in
    let after : drop at bytes ≡ separator ∷ drop (at + 1) bytes = drop_more bytes at 0 is.0 ∙ ap (λ b. b ∷ drop (at + 1) bytes) here in
    record {
      whole = sym (take-append-drop at bytes) ∙ ap (λ l. take at bytes ++ l) (after ∙ ap (λ l. separator ∷ l) (sym (rest_all bytes (at + 1))));
      first = lacks_before separator bytes at (omega (arith, is.0)) is.2;
    }

none_when : (test : Bool) (n : ℕ) → cond test (Some n) None ≡ None → test ≡ false
none_when true n h = absurd (cc h)
none_when false n h = refl

pub cut_missing : (separator : ℕ) (bytes : List ℕ) → position (λ b. eqb b separator) bytes ≡ None → lacks separator bytes ≡ true
cut_missing separator bytes h =
    let past = none_when _ _ h in
    let end : length bytes ≤ position_or_len (λ b. eqb b separator) bytes = grind (arith, nat_tests, past) in
    ap (lacks separator) (sym (take_all (length bytes) bytes (omega arith)))
    ∙ lacks_before separator bytes (length bytes) (omega arith) (λ k l. fails_before_first (λ b. eqb b separator) bytes k 0 (omega (arith, end)))

pub cut_shorter : (separator : ℕ) (bytes front rest : List ℕ) → IsCut separator bytes front rest → length rest < length bytes
cut_shorter separator bytes front rest cut = omega (arith, ap length cut.whole, length-append front (separator ∷ rest))

fails : (separator : ℕ) (bytes : List ℕ) → lacks separator bytes ≡ true → All (λ b. eqb b separator ≡ false) bytes
fails separator bytes h = λ k d l. not-true _ (AllPass-from_list_all (λ b. not (eqb b separator)) bytes h k d l)

-- the parts between separators
pub split_cut : (separator : ℕ) (bytes front rest : List ℕ) → IsCut separator bytes front rest →
    slice_split (λ b. eqb b separator) bytes ≡ front ∷ slice_split (λ b. eqb b separator) rest
split_cut separator bytes front rest cut =
    ap (slice_split (λ b. eqb b separator)) cut.whole
    ∙ slice_split_at (λ b. eqb b separator) front separator rest (fails separator front cut.first) (eq-eqb separator separator refl)

pub split_uncut : (separator : ℕ) (bytes : List ℕ) → lacks separator bytes ≡ true → slice_split (λ b. eqb b separator) bytes ≡ bytes ∷ []
split_uncut separator bytes h = slice_split_none (λ b. eqb b separator) bytes (fails separator bytes h)

lines_of_cons : (front : List ℕ) (parts : List (List ℕ)) → 0 < length parts → lines_of_parts (front ∷ parts) ≡ strip_carriage_return front ∷ lines_of_parts parts
lines_of_cons front [] h = absurd (omega arith)
lines_of_cons front (part ∷ parts) h = refl

-- the first line of a text ends at its first line feed
pub first_line : (text front rest : List ℕ) → IsCut 10 text front rest → lines text ≡ strip_carriage_return front ∷ lines rest
first_line text front rest cut =
    ap lines_of_parts (split_cut 10 text front rest cut)
    ∙ lines_of_cons front (slice_split (λ b. eqb b 10) rest) (omega (arith, length-slice_split (λ b. eqb b 10) rest))

lines_of_one : (text : List ℕ) (empty : Bool) → empty ≡ false → cond empty [] (text ∷ []) ≡ text ∷ []
lines_of_one text true h = absurd (cc h)
lines_of_one text false h = refl

-- a text without a line feed is one line
pub last_line : (text : List ℕ) → 0 < length text → lacks 10 text ≡ true → lines text ≡ text ∷ []
last_line text h none =
    let full : eqb (length text) 0 ≡ false = grind (arith, nat_tests) in
    ap lines_of_parts (split_uncut 10 text none) ∙ lines_of_one text (eqb (length text) 0) full

-- two cuts at a first separator are one
pub one_cut : (separator : ℕ) (bytes front rest other left : List ℕ) → IsCut separator bytes front rest → IsCut separator bytes other left → (front ≡ other) × (rest ≡ left)
one_cut separator bytes front rest other left cut again =
    let heads : front ≡ other = cc (split_cut separator bytes front rest cut, split_cut separator bytes other left again) in
    let same : front ++ separator ∷ rest ≡ front ++ separator ∷ left = sym cut.whole ∙ again.whole ∙ ap (λ f. f ++ separator ∷ left) (sym heads) in
    let tails = append_cancel_left front (separator ∷ rest) (separator ∷ left) same in
    (heads, cc tails)
