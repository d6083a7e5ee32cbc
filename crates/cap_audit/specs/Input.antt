-- What was read of an input, and what of it was played.
use Rattle.std.specs.Prelude.{◌≡◌, ◌<◌, ℕ, ◌+◌, List, ◌++◌, Option, Some}
use Rattle.std.specs.Str.Lines.{lines, strip_carriage_return}
use Rattle.std.specs.Io.KnownBytes.{Consumes, IsAtEnd}
use Rattle.cap_session.specs.declared.counted.Counted.{Counted}
use Rattle.cap_session.specs.Counted.{StreamState, state_of, inner_of}
use Rattle.cap_audit.specs.declared.auditor.Auditor.{Auditor}
use Rattle.cap_audit.specs.Audit.{IsTrueFile, StandsOn}
use Rattle.cap_audit.specs.Onward.{IsFalseText, MayGoOn}

-- all that a reader gave since is this text
pub record IsRead {T : Type 0} (remaining : T → Option (List ℕ)) (old new : Counted T) (text : List ℕ) : Type 0 where
  pub given : (state_of new).given ≡ (state_of old).given ++ text
  pub consumed : Consumes (remaining (inner_of old)) (remaining (inner_of new)) text

-- a reader has come to its end since
pub record HasEnded {T : Type 0} (remaining : T → Option (List ℕ)) (old new : Counted T) : Type 0 where
  pub counted : (state_of old).ends < (state_of new).ends
  pub at_end : IsAtEnd (remaining (inner_of new))

-- the whole text of an input was read since, and this holds of it
abbrev pub GaveWholeText : {T : Type 0} → (T → Option (List ℕ)) → Counted T → Counted T → (List ℕ → Type 0) → Type 0
GaveWholeText remaining old new P = (text : List ℕ) × IsRead remaining old new text × HasEnded remaining old new × P text

-- all that the reader would give, where it is known, is no true file
abbrev pub IsFalseInput : {T : Type 0} → (T → Option (List ℕ)) → Counted T → Type 0
IsFalseInput remaining reader = (whole : List ℕ) → remaining (inner_of reader) ≡ Some whole → IsFalseText whole

-- the text has these whole lines, and then what is begun
abbrev pub Reads : List ℕ → List (List ℕ) → List ℕ → Type 0
Reads text done begun = (more : List ℕ) → lines (text ++ more) ≡ done ++ lines (begun ++ more)

-- all whole lines were played, and where the file is true, what is to come of it is true behind them
pub record IsPlayed (text begun : List ℕ) (a : Auditor) : Type 0 where
  pub done : List (List ℕ)
  pub reads : Reads text done begun
  pub stands : StandsOn done a
  pub goes : (more : List ℕ) → IsTrueFile (lines (text ++ more)) → MayGoOn (lines (begun ++ more)) a

-- whatever was read and played up to these begun bytes, this holds of it
abbrev pub ForPlayed : List ℕ → Auditor → (List ℕ → Type 0) → Type 0
ForPlayed begun a P = (text : List ℕ) → IsPlayed text begun a → P text

-- a line that was begun and then ended by a line feed
abbrev pub whole_line : List ℕ → List ℕ → List ℕ
whole_line begun last = strip_carriage_return (begun ++ last)

-- after a read of these bytes
abbrev pub after_bytes : StreamState → List ℕ → StreamState
after_bytes s bytes = record s { reads = s.reads + 1; given = s.given ++ bytes }
