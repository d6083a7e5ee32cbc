-- The key that a line shows, whatever its bytes are.
use Rattle.std.specs.Prelude.{ℕ, ◌-◌, List, length, Option, Some, None, ◌&&◌, ◌==◌, nat_lt, slice_get, if◌then◌else◌}
use Rattle.std.specs.List.{list_all, slice_split}
use Rattle.cap_text.specs.Pieces.{parts_at, trimmed_bytes}
use Rattle.cap_base.specs.properties.Entries.{is_passed_over, is_printable}

-- bytes that may be shown: at least one, and each printable
unfoldable pub shown : List ℕ → Option (List ℕ)
shown bytes = if nat_lt 0 (length bytes) && list_all is_printable bytes then Some bytes else None

abbrev pub shown_first : Option (List ℕ × List ℕ) → Option (List ℕ)
shown_first (Some parts) = shown (trimmed_bytes parts.0)
shown_first None = None

-- the key of a line: what stands before its first `=`. A comment or an empty line has none
unfoldable pub key_shown : List ℕ → Option (List ℕ)
key_shown line = if is_passed_over line then None else shown_first (parts_at 61 line)

-- what stands before, between and after line feeds. A carriage return at the end of a line, which is no part of it, is here: no key shows it
abbrev pub pieces : List ℕ → List (List ℕ)
pieces text = slice_split (λ b. b == 10) text

-- the line of a number, counted from 1
unfoldable pub nth_line : List ℕ → ℕ → Option (List ℕ)
nth_line text n = if n == 0 then None else slice_get (pieces text) (n - 1)

abbrev pub key_or_none : Option (List ℕ) → Option (List ℕ)
key_or_none (Some line) = key_shown line
key_or_none None = None

-- the key that the line of a number in a text shows
unfoldable pub line_key : List ℕ → ℕ → Option (List ℕ)
line_key text n = key_or_none (nth_line text n)
