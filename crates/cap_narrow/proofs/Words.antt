-- Words that stand in a text: in a part of it, in one of its lines, in the key of a line.
use Rattle.cap_narrow.proofs.Prelude.{◌≡◌, ℕ, ◌-◌, Bool, true, false, List, [], ◌∷◌, ◌++◌, length, take, drop, cond, refl, sym, ◌∙◌, ap, subst, inl, inr, ◌==◌, ◌||◌, nat_eq, slice_index, slice_split, join_with_byte, starts_with, prefix_len, suffix_len, lines, lines_of_parts, strip_carriage_return, append_assoc, append-nil, take-append-drop, join_with_byte-slice_split, starts_is, Decides-eqb, trimmed_bytes, is_space, from_first_word, to_last_word, IsIn, stands_in}

-- a list that stands in another, in one piece
abbrev pub IsPartOf : List ℕ → List ℕ → Type 0
IsPartOf part whole = (front : List ℕ) × (rest : List ℕ) × (whole ≡ front ++ (part ++ rest))

pub part_itself : (xs : List ℕ) → IsPartOf xs xs
part_itself xs = ([], [], sym (append-nil xs))

pub part_of_part : (a b c : List ℕ) → IsPartOf a b → IsPartOf b c → IsPartOf a c
part_of_part a b c (f, r, e) (g, s, h) =
    (g ++ f, r ++ s, h ∙ ap (λ x. g ++ (x ++ s)) e ∙ ap (λ x. g ++ x) (append_assoc f (a ++ r) s ∙ ap (λ x. f ++ x) (append_assoc a r s)) ∙ sym (append_assoc g f (a ++ (r ++ s))))

pub part_taken : (n : ℕ) (xs : List ℕ) → IsPartOf (take n xs) xs
part_taken n xs = ([], drop n xs, sym (take-append-drop n xs))

pub part_dropped : (n : ℕ) (xs : List ℕ) → IsPartOf (drop n xs) xs
part_dropped n xs = (take n xs, [], sym (take-append-drop n xs) ∙ ap (λ ys. take n xs ++ ys) (sym (append-nil (drop n xs))))

pub part_trimmed : (xs : List ℕ) → IsPartOf (trimmed_bytes xs) xs
unfolding trimmed_bytes
part_trimmed xs =
    let words = from_first_word xs in
    part_of_part (to_last_word words) words xs (part_taken (length words - suffix_len is_space words) words) (part_dropped (prefix_len is_space xs) xs)

-- ---- the lines of a text
part_joined : (c : ℕ) (parts : List (List ℕ)) (x : List ℕ) → IsIn x parts → IsPartOf x (join_with_byte c parts)
part_joined c [] x m = absurd m
part_joined c (y ∷ []) x (inl e) = subst (λ z. IsPartOf z y) e (part_itself y)
part_joined c (y ∷ []) x (inr m) = absurd m
part_joined c (y ∷ z ∷ more) x (inl e) = subst (λ w. IsPartOf w (y ++ c ∷ join_with_byte c (z ∷ more))) e ([], c ∷ join_with_byte c (z ∷ more), refl)
part_joined c (y ∷ z ∷ more) x (inr m) =
    let rest = join_with_byte c (z ∷ more) in
    part_of_part x rest (y ++ c ∷ rest) (part_joined c (z ∷ more) x m) (y ++ c ∷ [], [], ap (λ r. y ++ c ∷ r) (sym (append-nil rest)) ∙ sym (append_assoc y (c ∷ []) (rest ++ [])))

part_stripped : (line : List ℕ) → IsPartOf (strip_carriage_return line) line
part_stripped line = by (slice_index line (length line - 1) == 13)
  where
    by : (b : Bool) → IsPartOf (cond b (take (length line - 1) line) line) line
    by true = part_taken (length line - 1) line
    by false = part_itself line

-- each line is of one of the parts between newlines
line_of_part : (parts : List (List ℕ)) (line : List ℕ) → IsIn line (lines_of_parts parts) → (x : List ℕ) × IsIn x parts × IsPartOf line x
line_of_part [] line m = absurd m
line_of_part (x ∷ []) line m = by (length x == 0) m
  where
    by : (b : Bool) → IsIn line (cond b [] (x ∷ [])) → (y : List ℕ) × IsIn y (x ∷ []) × IsPartOf line y
    by true h = absurd h
    by false (inl e) = (x, inl refl, subst (λ y. IsPartOf y x) e (part_itself x))
    by false (inr h) = absurd h
line_of_part (x ∷ y ∷ more) line (inl e) = (x, inl refl, subst (λ z. IsPartOf z x) e (part_stripped x))
line_of_part (x ∷ y ∷ more) line (inr m) = let r = line_of_part (y ∷ more) line m in (r.0, inr (r.1), r.2)

pub line_of_text : (text line : List ℕ) → IsIn line (lines text) → IsPartOf line text
line_of_text text line m =
    let parts = slice_split (λ b. b == 10) text in
    let of = line_of_part parts line m in
    part_of_part line (of.0) text (of.2) (subst (IsPartOf (of.0)) (join_with_byte-slice_split 10 text) (part_joined 10 parts (of.0) (of.1)))

-- ---- a word that stands in a text is found there
pub part_stands : (w : ℕ) (word text : List ℕ) → IsPartOf (w ∷ word) text → stands_in (w ∷ word) text ≡ true
part_stands w word text (front, rest, e) = ap (stands_in (w ∷ word)) e ∙ by front
  where
    first : (a b : Bool) → a ≡ true → a || b ≡ true
    first a b e = ap (λ x. x || b) e

    second : (a b : Bool) → b ≡ true → a || b ≡ true
    second true b e = refl
    second false b e = e

    by : (front : List ℕ) → stands_in (w ∷ word) (front ++ (w ∷ word ++ rest)) ≡ true
    by [] = first (starts_with nat_eq (w ∷ word ++ rest) (w ∷ word)) (stands_in (w ∷ word) (word ++ rest)) ((starts_is Decides-eqb (w ∷ word ++ rest) (w ∷ word) _ refl).1 rest refl)
    by (b ∷ front) = second (starts_with nat_eq (b ∷ front ++ (w ∷ word ++ rest)) (w ∷ word)) (stands_in (w ∷ word) (front ++ (w ∷ word ++ rest))) (by front)
