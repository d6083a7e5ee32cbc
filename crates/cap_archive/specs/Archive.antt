-- What of some bytes was written out, and what of them is left; and the lines of the settings.
use Rattle.std.specs.Prelude.{◌≡◌, ℕ, List, ◌++◌, Option}
use Rattle.std.specs.Io.KnownBytes.{Appends}
use Rattle.std.specs.List.{flat_map}
use Rattle.cap_journal.specs.Lines.{ended, property_words}

-- a beginning of the bytes was written out, and these are left
abbrev pub Passes : Option (List ℕ) → Option (List ℕ) → List ℕ → List ℕ → Type 0
Passes old new bytes left = (written : List ℕ) × Appends old new written × (written ++ left ≡ bytes)

-- the lines of these property lines, with their ends
abbrev pub settings_lines : List (List ℕ) → List ℕ
settings_lines properties = flat_map (λ p. ended (property_words p)) properties
