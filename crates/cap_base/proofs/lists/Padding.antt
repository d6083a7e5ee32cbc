-- A text in an array that is filled up with zeros.
use Rattle.cap_base.proofs.Prelude.{◌≡◌, ℕ, ◌-◌, ◌<◌, ◌≤◌, List, length, get_or, take, true, refl, sym, ap, ◌∙◌, arith, inl, inr, replicate, cases_lt, ext_get_or, get_or-append_right, get_or_append_left, get_or-replicate, length-append, length-replicate, take_at, nat_tests, is_text, padded_text, IsStored}

-- how far a text was copied into an array of zeros
pub record IsCopied (n : ℕ) (text array : List ℕ) : Type 0 where
  pub copied : (k : ℕ) → k < n → get_or array k 0 ≡ get_or text k 0
  pub zero : (k : ℕ) → n ≤ k → get_or array k 0 ≡ 0

pub padded_is : (most : ℕ) (text array : List ℕ) → length array ≡ most → length text ≤ most → IsCopied (length text) text array → array ≡ padded_text most text
padded_is most text array long short is =
    let full : length (padded_text most text) ≡ most = omega (arith, length-append text (replicate (most - length text) 0), length-replicate {A = ℕ} (most - length text) 0) in
    ext_get_or 0 array (padded_text most text) (omega arith)
    (λ k h. elim (cases_lt k (length text)) [
      | inl below ↦ is.copied k below ∙ sym (get_or_append_left text (replicate (most - length text) 0) 0 k below)
      | inr past ↦
          is.zero k past
          ∙ sym (get_or-append_right text (replicate (most - length text) 0) (length text) k 0 refl past
          ∙ get_or-replicate (most - length text) (k - length text) 0 0 (omega arith))
    ])

-- the array holds the text
pub held : (most : ℕ) (text array : List ℕ) → length array ≡ most → length text ≤ most → is_text most text ≡ true → IsCopied (length text) text array → IsStored most (length text) array × (take (length text) array ≡ text)
held most text array long short good is =
    let whole = padded_is most text array long short is in
    let same : take (length text) array ≡ text = ap (take (length text)) whole ∙ take_at text (replicate (most - length text) 0) (length text) refl in (
      record {
        short = omega arith;
        text = rw same good;
        padding = rw same whole;
      },
      same,
    )

-- a text of at most so many bytes is no longer
pub text_short : (most : ℕ) (text : List ℕ) → is_text most text ≡ true → length text ≤ most
text_short most text good = grind (arith, nat_tests)
