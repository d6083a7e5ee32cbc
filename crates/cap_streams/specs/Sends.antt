-- What sends do to the bytes that a stream has taken.
use Rattle.std.specs.Prelude.{◌≡◌, ℕ, List, ◌++◌, take, Option, Some, None, Result, Ok, Err}
use Rattle.std.specs.Io.KnownBytes.{Appends, Keeps}

-- the stream took so many first bytes, or none
abbrev pub Sends : {E : Type 0} → Option (List ℕ) → Option (List ℕ) → Result (Option ℕ) E → List ℕ → Type 0
Sends had has (Ok (Some n)) bytes = Appends had has (take n bytes)
Sends had has (Ok None) bytes = Keeps had has
Sends had has (Err e) bytes = Keeps had has

-- the bytes that the stream took are those that were noted, in order
pub record IsLogged (had has : Option (List ℕ)) (old new : List ℕ) : Type 0 where
  pub more : List ℕ
  pub went : Appends had has more
  pub noted : new ≡ old ++ more
