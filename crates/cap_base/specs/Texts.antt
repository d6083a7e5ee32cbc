-- Texts of messages.
use Rattle.std.specs.Prelude.{◌≡◌, ℕ, ◌-◌, ◌≤◌, List, ◌++◌, length, take, replicate, Bool, true, nat_lt, nat_le, ◌&&◌}
use Rattle.std.specs.List.{list_all}
use Rattle.std.proofs.Common.{length-take-le}

-- a byte that a text may have
abbrev pub is_graphic : ℕ → Bool
is_graphic b = nat_le 33 b && nat_le b 126

-- the byte between the names of a path, and the one that is any place
abbrev pub dot : ℕ
dot = 46

abbrev pub star : ℕ
star = 42

-- 1 to most bytes, each graphic
abbrev pub is_text : ℕ → List ℕ → Bool
is_text most bytes = (nat_lt 0 (length bytes) && nat_le (length bytes) most) && list_all is_graphic bytes

-- a text filled up with zeros
abbrev pub padded_text : ℕ → List ℕ → List ℕ
padded_text most text = text ++ replicate (most - length text) 0

-- how a text stands in an array of the greatest length
pub record IsStored (most len : ℕ) (array : List ℕ) : Type 0 where
  pub short : len ≤ length array
  pub text : is_text most (take len array) ≡ true
  pub padding : array ≡ padded_text most (take len array)

pub length_held : (most len : ℕ) (array : List ℕ) → IsStored most len array → length (take len array) ≡ len
length_held most len array held = length-take-le len array held.short
