-- Words, numbers and digits between blanks, read back.
use Rattle.cap_audit.proofs.Prelude.{◌≡◌, ◌<◌, ◌^◌, ◌+◌, ◌-◌, ◌/◌, ◌%◌, ◌==◌, ℕ, suc, true, false, not, List, [], ◌∷◌, ◌++◌, length, get_or, take, drop, slice_index, Option, None, Some, refl, sym, ap, ◌∙◌, subst, inl, inr, arith, nat_tests, append-nil, and_parts, cases_eq, cases_lt, get_or_past, list_all-append, decimal, decimal_by_steps, drop-append_seam, drop_more, take_more, one_cut, rest_all, lacks, IsCut, IsBytes, IsDigits-lower_digits, encode_lower, hex_digit_value, lower_digits, request_is_bytes, FitsRequest, IsRequest, request_bytes, Request, resources, blanked, head, IsBlankOrEnd, IsWord}
use Rattle.hex.specs.Hex.{encode_with}

digit_lacks : (d : ℕ) → lacks 32 ((48 + d) ∷ []) ≡ true
digit_lacks d = grind (arith, nat_tests)

-- numbers have no blanks
pub lacks-decimal : (n : ℕ) → n < 2 ^ 64 → lacks 32 (decimal n) ≡ true
lacks-decimal n small = decimal_by_steps (λ (m : ℕ) (ds : List ℕ). lacks 32 ds ≡ true) (λ m l. digit_lacks m) (λ m ds l is. list_all-append _ ds ((48 + m % 10) ∷ []) ∙ rw (is, digit_lacks (m % 10)) refl) n small

not_blank : (c v : ℕ) → hex_digit_value c ≡ Some v → not (c == 32) ≡ true
not_blank c v h =
    elim (cases_eq c 32) [
      | inl e ↦
          let no : None ≡ Some v = ap hex_digit_value (sym e) ∙ h in
          absurd (cc no)
      | inr other ↦ grind (arith, nat_tests, other)
    ]

-- nor have hexadecimal digits
pub lacks-encoded : (bytes : List ℕ) → IsBytes bytes → lacks 32 (encode_lower bytes) ≡ true
unfolding encode_with
lacks-encoded [] is = refl
lacks-encoded (b ∷ bytes) is =
    let fits : b < 256 = is 0 in
    let high = not_blank (slice_index lower_digits (b / 16)) (b / 16) (IsDigits-lower_digits (b / 16) (omega arith)) in
    let low = not_blank (slice_index lower_digits (b % 16)) (b % 16) (IsDigits-lower_digits (b % 16) (omega arith)) in
    let rest = lacks-encoded bytes (λ k. is (suc k)) in
    rw (high, low, rest) refl

-- a blank is not lacking
pub broken : (a b : List ℕ) → lacks 32 (a ++ 32 ∷ b) ≡ true → ⊥
broken a b h =
    let both = and_parts (lacks 32 a) false (sym (list_all-append _ a (32 ∷ b)) ∙ h) in
    cc both.1

-- a word is what stands before the first blank
cut_of : (bytes front rest : List ℕ) (c : ℕ) → IsWord bytes front (c ∷ rest) → IsCut 32 bytes front rest
cut_of bytes front rest c word = record { whole = word.whole ∙ ap (λ (x : ℕ). front ++ x ∷ rest) word.ends; first = word.unbroken }

pub word_cut : (bytes a b front rest : List ℕ) → IsCut 32 bytes a b → IsWord bytes front rest → a ≡ front
word_cut bytes a b front [] cut word = absurd (broken a b (ap (lacks 32) (sym cut.whole ∙ word.whole ∙ append-nil front) ∙ word.unbroken))
word_cut bytes a b front (c ∷ rest) cut word = (one_cut 32 bytes a b front rest cut (cut_of bytes front rest c word)).0

blank_or_end : (numbers : List ℕ) → IsBlankOrEnd (blanked numbers)
blank_or_end [] = tt
blank_or_end (n ∷ numbers) = refl

-- a number and those behind it
pub number_word : (bytes : List ℕ) (n : ℕ) (more : List ℕ) → n < 2 ^ 64 → bytes ≡ decimal n ++ blanked more → IsWord bytes (decimal n) (blanked more)
number_word bytes n more small is = record { whole = is; unbroken = lacks-decimal n small; ends = blank_or_end more }

pub past_word : (bytes word front rest : List ℕ) → bytes ≡ front ++ rest → word ≡ front → take (length bytes - length word) (drop (length word) bytes) ≡ rest
past_word bytes word front rest is same =
    rest_all bytes (length word)
    ∙ ap (λ (w : List ℕ). drop (length w) bytes) same
    ∙ ap (drop (length front)) is
    ∙ drop-append_seam front rest

pub some_is : {A : Type 0} (x y : A) → Some x ≡ Some y → x ≡ y
some_is x y e = cc e

pub number_is : (o : Option ℕ) (x n : ℕ) → o ≡ Some x → o ≡ Some n → x ≡ n
number_is o x n is found = cc (is, found)

-- numbers so far, and one more
pub record AreRead (rest numbers : List ℕ) (i : ℕ) (all : List ℕ) : Type 0 where
  pub read : take i numbers ≡ take i all
  pub left : rest ≡ blanked (drop i all)

pub one_more : (rest after numbers stored all : List ℕ) (i number : ℕ) → i < length all → AreRead rest numbers i all → number ≡ get_or all i 0 → after ≡ blanked (drop (i + 1) all) → take (i + 1) stored ≡ take i numbers ++ number ∷ [] → AreRead after stored (i + 1) all
one_more rest after numbers stored all i number below was is left put = record {
  read = put ∙ ap (λ (x : List ℕ). x ++ number ∷ []) was.read ∙ ap (λ (x : ℕ). take i all ++ x ∷ []) is ∙ sym (take_more all i 0 below);
  left = left;
}

pub next_is : (all rest : List ℕ) (i : ℕ) → i < length all → rest ≡ blanked (drop i all) → rest ≡ blanked (get_or all i 0 ∷ drop (i + 1) all)
next_is all rest i below is = is ∙ ap blanked (drop_more all i 0 below)

-- a request's bytes are bytes
pub spelled_bytes : (request : Request resources) → FitsRequest 2 request → IsBytes (request_bytes head request)
spelled_bytes request fits =
    let are = request_is_bytes resources head request refl fits in
    λ i. elim (cases_lt i (length (request_bytes head request))) [
      | inl below ↦ are i 0 below
      | inr past ↦ subst (λ (x : ℕ). x < 256) (sym (get_or_past (request_bytes head request) i 0 (omega arith))) (omega arith)
    ]

pub is_spelled : (payload : List ℕ) (request : Request resources) → FitsRequest 2 request → payload ≡ request_bytes head request → IsRequest payload head request
is_spelled payload request fits is = record { spelled = is; version_fits = refl; id_fits = omega arith; fits = fits }
