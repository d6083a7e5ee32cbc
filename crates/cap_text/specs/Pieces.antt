-- Pieces of a text: cut at a separator, and without the spaces at both ends.
use Rattle.std.specs.Prelude.{◌≡◌, ℕ, ◌+◌, ◌-◌, List, ◌∷◌, ◌++◌, length, take, drop, Option, Bool, true, not, ◌==◌}
use Rattle.std.specs.List.{list_all, prefix_len, suffix_len, position}
use Rattle.std.specs.Option.{option_map}

-- no byte is the separator
abbrev pub lacks : ℕ → List ℕ → Bool
lacks separator bytes = list_all (λ b. not (b == separator)) bytes

-- the bytes before the first separator, and those after it
abbrev pub parts_at : ℕ → List ℕ → Option (List ℕ × List ℕ)
parts_at separator bytes = option_map (λ at. (take at bytes, drop (at + 1) bytes)) (position (λ b. b == separator) bytes)

-- the first separator is between the two
pub record IsCut (separator : ℕ) (bytes front rest : List ℕ) : Type 0 where
  pub whole : bytes ≡ front ++ separator ∷ rest
  pub first : lacks separator front ≡ true

abbrev pub is_space : ℕ → Bool
is_space b = b == 32

-- without the spaces at the front, and at the end
abbrev pub from_first_word : List ℕ → List ℕ
from_first_word bytes = drop (prefix_len is_space bytes) bytes

abbrev pub to_last_word : List ℕ → List ℕ
to_last_word bytes = take (length bytes - suffix_len is_space bytes) bytes

unfoldable pub trimmed_bytes : List ℕ → List ℕ
trimmed_bytes bytes = to_last_word (from_first_word bytes)
