-- Streams whose failed calls are counted.
use Rattle.std.specs.Prelude.{◌≡◌, ◌⊎◌, ℕ, ◌+◌, ◌^◌, ◌<◌, ◌++◌, List, Option, Result, Err}
use Rattle.std.specs.Io.KnownBytes.{Consumes, IsAtEnd}
use Rattle.cap_session.specs.declared.counted.Counted.{Counted}
use Rattle.cap_session.specs.Counted.{StreamState, CanCount, state_of, inner_of}
use Rattle.cap_replay.specs.declared.stop.Stop.{Stop}
use Rattle.cap_replay.specs.declared.stop.Stop.TheVariants.{BadLine, Config, Input, Output}

-- how many reads are made at most
abbrev pub reads_max : ℕ
reads_max = 2 ^ 32

-- how often a reader failed or was quiet
abbrev pub misses : StreamState → ℕ
misses s = s.failures + s.quiets

-- all that a reader gave since is this text
pub record IsRead {T : Type 0} (remaining : T → Option (List ℕ)) (old new : Counted T) (text : List ℕ) : Type 0 where
  pub given : (state_of new).given ≡ (state_of old).given ++ text
  pub consumed : Consumes (remaining (inner_of old)) (remaining (inner_of new)) text

-- a reader has come to its end since
pub record HasEnded {T : Type 0} (remaining : T → Option (List ℕ)) (old new : Counted T) : Type 0 where
  pub counted : (state_of old).ends < (state_of new).ends
  pub at_end : IsAtEnd (remaining (inner_of new))

-- some text was read since of which this holds
abbrev pub GaveText : {T : Type 0} → (T → Option (List ℕ)) → Counted T → Counted T → (List ℕ → Type 0) → Type 0
GaveText remaining old new P = (text : List ℕ) × IsRead remaining old new text × P text

-- the same where the input has ended
abbrev pub GaveWholeText : {T : Type 0} → (T → Option (List ℕ)) → Counted T → Counted T → (List ℕ → Type 0) → Type 0
GaveWholeText remaining old new P = (text : List ℕ) × IsRead remaining old new text × HasEnded remaining old new × P text

-- after a read of these bytes
abbrev pub after_bytes : StreamState → List ℕ → StreamState
after_bytes s bytes = record s { reads = s.reads + 1; given = s.given ++ bytes }

-- all reads that may be made were made, each gave bytes, and none has failed, was quiet or found the end
pub record GivesNoEnd (old new : StreamState) : Type 0 where
  pub reads : new.reads ≡ old.reads + reads_max
  pub misses : misses new ≡ misses old
  pub ends : new.ends ≡ old.ends

-- Input is why it stopped where the reader has failed or was quiet, or where all reads gave no end; and nowhere else
abbrev pub CountsReads : {X : Type 0} → Result X Stop → StreamState → StreamState → Type 0
CountsReads (Err Input) old new = (misses old < misses new) ⊎ GivesNoEnd old new
CountsReads _ old new = misses new ≡ misses old

-- 1 where a read has failed, and where a write has
abbrev pub input_failures : {X : Type 0} → Result X Stop → ℕ
input_failures (Err Input) = 1
input_failures _ = 0

abbrev pub output_failures : {X : Type 0} → Result X Stop → ℕ
output_failures (Err Output) = 1
output_failures _ = 0

-- where no write has failed, more may be counted
abbrev pub MayWrite : {X : Type 0} → Result X Stop → StreamState → Type 0
MayWrite (Err Output) s = Unit {0}
MayWrite _ s = CanCount s

-- a script that is refused for what it says
abbrev pub IsRefused : {X : Type 0} → Result X Stop → Type 0
IsRefused (Err (BadLine n)) = Unit {0}
IsRefused (Err (Config fault)) = Unit {0}
IsRefused _ = ⊥

-- a stop that no stream has caused
abbrev pub IsOfScript : Stop → Type 0
IsOfScript Input = ⊥
IsOfScript Output = ⊥
IsOfScript _ = Unit {0}
