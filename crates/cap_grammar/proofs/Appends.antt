-- What was appended in pieces.
use Rattle.cap_grammar.proofs.Prelude.{◌≡◌, ℕ, List, [], ◌∷◌, ◌++◌, length, ap, refl, append_assoc, flat_map, byte, w32, to_be_bytes}

pub five : (old p q r s t x y z a b c d e : List ℕ) → x ≡ a → y ≡ b → z ≡ c → p ≡ old ++ x → q ≡ p ++ y → r ≡ q ++ z → s ≡ r ++ d → t ≡ s ++ e → t ≡ old ++ (a ++ b ++ c ++ d ++ e)
five old p q r s t x y z a b c d e i1 i2 i3 h1 h2 h3 h4 h5 = rw (h5, h4, h3, h2, h1, i1, i2, i3) (simp append_assoc)

pub seven : (old p q r s t u v x1 x2 x3 x4 x5 x6 x7 a b c d e f g : List ℕ) → x1 ≡ a → x2 ≡ b → x3 ≡ c → x4 ≡ d → x5 ≡ e → x6 ≡ f → x7 ≡ g →
    p ≡ old ++ x1 → q ≡ p ++ x2 → r ≡ q ++ x3 → s ≡ r ++ x4 → t ≡ s ++ x5 → u ≡ t ++ x6 → v ≡ u ++ x7 → v ≡ old ++ (a ++ (b ++ (c ++ (d ++ ((e ++ f) ++ g)))))
seven old p q r s t u v x1 x2 x3 x4 x5 x6 x7 a b c d e f g i1 i2 i3 i4 i5 i6 i7 h1 h2 h3 h4 h5 h6 h7 = rw (h7, h6, h5, h4, h3, h2, h1, i1, i2, i3, i4, i5, i6, i7) (simp append_assoc)

pub apart_five : (old p q r s t x1 x2 x3 x4 x5 a b c d e : List ℕ) → x1 ≡ a → x2 ≡ b → x3 ≡ c → x4 ≡ d → x5 ≡ e →
    p ≡ old ++ x1 → q ≡ p ++ x2 → r ≡ q ++ x3 → s ≡ r ++ x4 → t ≡ s ++ x5 → t ≡ old ++ (a ++ (b ++ (c ++ (d ++ e))))
apart_five old p q r s t x1 x2 x3 x4 x5 a b c d e i1 i2 i3 i4 i5 h1 h2 h3 h4 h5 = rw (h5, h4, h3, h2, h1, i1, i2, i3, i4, i5) (simp append_assoc)

-- bytes, each spelled as one byte
pub each_byte : (bytes : List ℕ) → flat_map byte bytes ≡ bytes
each_byte [] = refl
each_byte (b ∷ bytes) = ap (λ (t : List ℕ). b ∷ t) (each_byte bytes)

pub three : (old p q r a b c x : List ℕ) → x ≡ b → p ≡ old ++ a → q ≡ p ++ x → r ≡ q ++ c → r ≡ old ++ (a ++ (b ++ c))
three old p q r a b c x i h1 h2 h3 = rw (h3, h2, h1, i) (simp append_assoc)

pub four : (old p q r s a b c d x : List ℕ) → x ≡ b → p ≡ old ++ a → q ≡ p ++ x → r ≡ q ++ c → s ≡ r ++ d → s ≡ old ++ (a ++ (b ++ (c ++ d)))
four old p q r s a b c d x i h1 h2 h3 h4 = rw (h4, h3, h2, h1, i) (simp append_assoc)

-- property lines with their number before them, of which `view` and `count` are what the code saw
pub lines_written : (old p q view count lines : List ℕ) → count ≡ to_be_bytes w32 (length view) → view ≡ lines → p ≡ old ++ count → q ≡ p ++ view → q ≡ old ++ (to_be_bytes w32 (length lines) ++ flat_map byte lines)
lines_written old p q view count lines c v h1 h2 = rw (each_byte lines, h2, h1, c, v) (append_assoc old (to_be_bytes w32 (length lines)) lines)
