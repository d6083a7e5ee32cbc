-- Fields that are read one after the other.
use Rattle.cap_grammar.proofs.Prelude.{List, None, Option, Some, [], ap, append_assoc, arith, drop, length, refl, suc, sym, take, zero, ℕ, ◌++◌, ◌+◌, ◌-◌, ◌<◌, ◌∙◌, ◌∷◌, ◌≡◌, ◌≤◌, append-nil, nat_le, number, byte_at, passing_at, times_at, ◌>>=◌, counted_at}

-- what n more fields give after those that were read
abbrev pub more_at : {A : Type 0} → List A → ℕ → (List ℕ → Option (A × List ℕ)) → List ℕ → Option (List A × List ℕ)
more_at done zero field bytes = Some (done, bytes)
more_at done (suc n) field bytes = field bytes >>= λ x. more_at (done ++ x.0 ∷ []) n field x.1

module _ {A : Type 0} (field : List ℕ → Option (A × List ℕ)) where
  bind_again : {B C D : Type 0} (o : Option B) (f : B → Option C) (g : C → Option D) → ((o >>= f) >>= g) ≡ (o >>= λ x. f x >>= g)
  bind_again None f g = refl
  bind_again (Some x) f g = refl

  bind_same : {B C : Type 0} (o : Option B) (f g : B → Option C) → ((x : B) → f x ≡ g x) → (o >>= f) ≡ (o >>= g)
  bind_same None f g e = refl
  bind_same (Some x) f g e = e x

  onto : (done : List A) (n : ℕ) (bytes : List ℕ) → (times_at n field bytes >>= λ x. Some (done ++ x.0, x.1)) ≡ more_at done n field bytes
  onto done zero bytes = λ i. Some (append-nil done i, bytes)
  onto done (suc n) bytes =
      bind_again (field bytes) (λ x. times_at n field x.1 >>= λ xs. Some (x.0 ∷ xs.0, xs.1)) (λ x. Some (done ++ x.0, x.1))
      ∙ bind_same (field bytes) _ _
      (λ x.
      bind_again (times_at n field x.1) (λ xs. Some (x.0 ∷ xs.0, xs.1)) (λ y. Some (done ++ y.0, y.1))
      ∙ bind_same (times_at n field x.1) _ _ (λ xs. ap (λ (ys : List A). Some (ys, xs.1)) (sym (append_assoc done (x.0 ∷ []) xs.0)))
      ∙ onto (done ++ x.0 ∷ []) n x.1)

  whole : (n : ℕ) (bytes : List ℕ) → times_at n field bytes ≡ more_at [] n field bytes
  whole n bytes = sym (bind_id (times_at n field bytes)) ∙ onto [] n bytes
    where
      bind_id : (o : Option (List A × List ℕ)) → (o >>= λ x. Some (x.0, x.1)) ≡ o
      bind_id None = refl
      bind_id (Some x) = refl

  -- the length was read, and then come the fields
  pub counted_start : (number : List ℕ → Option (ℕ × List ℕ)) (most : ℕ) (bytes : List ℕ) (n : ℕ) (rest : List ℕ) (none : List A) → passing_at (λ n. nat_le n most) number bytes ≡ Some (n, rest) → none ≡ [] → counted_at number most field bytes ≡ more_at none (n - 0) field rest
  unfolding counted_at
  counted_start number most bytes n rest none e nothing =
      let all : n ≡ n - 0 = omega arith in
      ap (λ (o : Option (ℕ × List ℕ)). o >>= λ x. times_at x.0 field x.1) e ∙ whole n rest ∙ (λ j. more_at (sym nothing j) (all j) field rest)

  pub counted_fails : (number : List ℕ → Option (ℕ × List ℕ)) (most : ℕ) (bytes : List ℕ) → passing_at (λ n. nat_le n most) number bytes ≡ None → counted_at number most field bytes ≡ None
  unfolding counted_at
  counted_fails number most bytes e = ap (λ (o : Option (ℕ × List ℕ)). o >>= λ x. times_at x.0 field x.1) e

  -- one more was read, or was not there
  step : (done : List A) (left : ℕ) (bytes : List ℕ) (x : A) (rest : List ℕ) → 1 ≤ left → field bytes ≡ Some (x, rest) → more_at done left field bytes ≡ more_at (done ++ x ∷ []) (left - 1) field rest
  step done zero bytes x rest some e = absurd (omega (arith, some))
  step done (suc n) bytes x rest some e =
      let one_less : n ≡ suc n - 1 = omega arith in
      ap (λ (o : Option (A × List ℕ)). o >>= λ y. more_at (done ++ y.0 ∷ []) n field y.1) e ∙ ap (λ m. more_at (done ++ x ∷ []) m field rest) one_less

  fails : (done : List A) (left : ℕ) (bytes : List ℕ) → 1 ≤ left → field bytes ≡ None → more_at done left field bytes ≡ None
  fails done zero bytes some e = absurd (omega (arith, some))
  fails done (suc n) bytes some e = ap (λ (o : Option (A × List ℕ)). o >>= λ y. more_at (done ++ y.0 ∷ []) n field y.1) e

  ends : (done : List A) (left : ℕ) (bytes : List ℕ) → left ≡ 0 → more_at done left field bytes ≡ Some (done, bytes)
  ends done zero bytes e = refl
  ends done (suc n) bytes e = absurd (omega (arith, e))

  -- the same, with what was read so far
  pub more_step : (all : Option (List A × List ℕ)) (done next : List A) (length i : ℕ) (bytes : List ℕ) (x : A) (rest : List ℕ) → all ≡ more_at done (length - i) field bytes → i < length → field bytes ≡ Some (x, rest) → next ≡ done ++ x ∷ [] →
      all ≡ more_at next (length - (i + 1)) field rest
  more_step all done next length i bytes x rest so_far more e last =
      let left : (length - i) - 1 ≡ length - (i + 1) = omega arith in
      so_far ∙ step done (length - i) bytes x rest (omega (arith, more)) e ∙ (λ j. more_at (sym last j) (left j) field rest)

  pub more_fails : (all : Option (List A × List ℕ)) (done : List A) (length i : ℕ) (bytes : List ℕ) → all ≡ more_at done (length - i) field bytes → i < length → field bytes ≡ None → all ≡ None
  more_fails all done length i bytes so_far more e = so_far ∙ fails done (length - i) bytes (omega (arith, more)) e

  pub more_ends : (all : Option (List A × List ℕ)) (done : List A) (length i : ℕ) (bytes : List ℕ) → all ≡ more_at done (length - i) field bytes → length ≤ i → all ≡ Some (done, bytes)
  more_ends all done length i bytes so_far less = so_far ∙ ends done (length - i) bytes (omega (arith, less))

-- bytes that are read one after the other are read at once
bytes_at_once : (n : ℕ) (bytes : List ℕ) → n ≤ length bytes → times_at n byte_at bytes ≡ Some (take n bytes, drop n bytes)
bytes_at_once zero bytes long = refl
bytes_at_once (suc n) [] long = absurd (omega (arith, long))
bytes_at_once (suc n) (b ∷ bytes) long = ap (λ (o : Option (List ℕ × List ℕ)). o >>= λ x. Some (b ∷ x.0, x.1)) (bytes_at_once n bytes (omega (arith, long)))

bytes_missing : (n : ℕ) (bytes : List ℕ) → length bytes < n → times_at n byte_at bytes ≡ None
bytes_missing zero bytes short = absurd (omega (arith, short))
bytes_missing (suc n) [] short = refl
bytes_missing (suc n) (b ∷ bytes) short = ap (λ (o : Option (List ℕ × List ℕ)). o >>= λ x. Some (b ∷ x.0, x.1)) (bytes_missing n bytes (omega (arith, short)))

-- bytes after their length
abbrev SizeAt : (List ℕ → Option (ℕ × List ℕ)) → ℕ → List ℕ → ℕ → List ℕ → Type 0
SizeAt number most bytes n rest = passing_at (λ n. nat_le n most) number bytes ≡ Some (n, rest)

pub counted_bytes : (number : List ℕ → Option (ℕ × List ℕ)) (most : ℕ) (bytes : List ℕ) (n : ℕ) (rest : List ℕ) → SizeAt number most bytes n rest → n ≤ length rest → counted_at number most byte_at bytes ≡ Some (take n rest, drop n rest)
unfolding counted_at
counted_bytes number most bytes n rest size long = ap (λ (o : Option (ℕ × List ℕ)). o >>= λ x. times_at x.0 byte_at x.1) size ∙ bytes_at_once n rest long

pub counted_missing : (number : List ℕ → Option (ℕ × List ℕ)) (most : ℕ) (bytes : List ℕ) (n : ℕ) (rest : List ℕ) → SizeAt number most bytes n rest → length rest < n → counted_at number most byte_at bytes ≡ None
unfolding counted_at
counted_missing number most bytes n rest size short = ap (λ (o : Option (ℕ × List ℕ)). o >>= λ x. times_at x.0 byte_at x.1) size ∙ bytes_missing n rest short
