-- What a daemon prints, and with which exit status it ends.
use Rattle.std.specs.Prelude.{◌≡◌, ◌⊎◌, ℕ, ◌≤◌, List, [], ◌++◌, Option, codes, decimal}
use Rattle.std.specs.Io.KnownBytes.{Appends}
use Rattle.cap_session.specs.Counted.{StreamState}
use Rattle.cap_server.specs.declared.serving.Totals.{Totals}
use Rattle.cap_server.specs.Epochs.{LeadsThrough, Standing}

abbrev pub listening_line : ℕ → List ℕ
listening_line port = codes "listening " ++ decimal port ++ codes "\n"

abbrev pub closed_line : Totals → List ℕ
closed_line totals = codes "closed epochs=" ++ decimal totals.epochs ++ codes " entries=" ++ decimal totals.entries ++ codes "\n"

abbrev pub no_memory_line : List ℕ
no_memory_line = codes "no memory\n"

-- bytes were printed, of which this holds
pub record IsPrinted (had has : Option (List ℕ)) (P : List ℕ → Type 0) : Type 0 where
  pub out : List ℕ
  pub appends : Appends had has out
  pub holds : P out

-- unless a call on the writer failed, bytes were printed, of which this holds
abbrev pub Prints : StreamState → StreamState → Option (List ℕ) → Option (List ℕ) → (List ℕ → Type 0) → Type 0
Prints old new had has P = new.failures ≤ old.failures → IsPrinted had has P

-- an allocation failed, or a thread could not be made
abbrev pub IsStarved : ℕ → List ℕ → Type 0
IsStarved status out = (status ≡ 3) × (out ≡ no_memory_line)

-- nothing was served
abbrev pub IsRefused : ℕ → List ℕ → Type 0
IsRefused status out = IsStarved status out ⊎ ((status ≡ 1) × (out ≡ []))

-- Epochs were closed, whose journals, each at most the limit, lead one after the other from the opening cluster to the last one. What is printed is how
-- many journals there were and how many entries they have together.
pub record IsClosed (limit : ℕ) (opening : Standing) (status : ℕ) (out : List ℕ) : Type 0 where
  pub totals : Totals
  pub closing : Standing
  pub journals : LeadsThrough limit opening totals closing
  pub printed : out ≡ closed_line totals
  pub done : status ≤ 1

abbrev pub Closes : ℕ → Standing → ℕ → List ℕ → Type 0
Closes limit opening status out = IsStarved status out ⊎ IsClosed limit opening status out

-- the port was printed, and then what came of the epochs
pub record Listens (limit : ℕ) (opening : Standing) (status : ℕ) (out : List ℕ) : Type 0 where
  pub port : ℕ
  pub more : List ℕ
  pub printed : out ≡ listening_line port ++ more
  pub closes : Closes limit opening status more

-- all that a daemon prints
abbrev pub Ends : ℕ → Standing → ℕ → List ℕ → Type 0
Ends limit opening status out = IsRefused status out ⊎ Listens limit opening status out
