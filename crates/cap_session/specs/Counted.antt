-- What is seen of a reader or a writer whose failures are counted.
use Rattle.std.specs.Prelude.{◌≡◌, ℕ, ◌+◌, ◌<◌, ◌≤◌, ◌++◌, List, [], take, length, map, Option, Result, Ok, Err, is_err, ◌==◌, if◌then◌else◌}
use Rattle.std.specs.IoError.{error_kind}
use Rattle.std.specs.declared.io.Error.{Error}
use Rattle.std.specs.declared.io.ErrorKind.{ErrorKind}
use Rattle.std.specs.declared.io.ErrorKind.TheVariants as kinds
use Rattle.std.specs.Io.KnownBytes.{Consumes, Appends, Keeps, IsAtEnd}
use Rattle.cap_session.specs.declared.counted.Counted.{Counted}
use Rattle.cap_session.specs.declared.counted.Got.{Got}
use Rattle.cap_session.specs.declared.counted.Got.TheVariants as got
use Rattle.cap_session.specs.declared.counted.Put.{Put}
use Rattle.cap_session.specs.declared.counted.Put.TheVariants as put
use Rattle.cap_session.specs.declared.counted.Sent.{Sent}
use Rattle.cap_session.specs.declared.counted.Sent.TheVariants as sents

-- how many calls failed, how many reads were quiet, how many found the end and how many gave bytes, the bytes that the reads gave and those
-- that the writes took
pub record StreamState : Type 0 where
  pub failures : ℕ
  pub quiets : ℕ
  pub ends : ℕ
  pub reads : ℕ
  pub given : List ℕ
  pub taken : List ℕ

abbrev pub new_stream : StreamState
new_stream = record { failures = 0; quiets = 0; ends = 0; reads = 0; given = []; taken = [] }

-- the bytes of a log
abbrev pub bytes_in : List (ℕ × Unit {0}) → List ℕ
bytes_in entries = map (λ e. e.0) entries

abbrev pub state_of : {T : Type 0} → Counted T → StreamState
state_of c = record { failures = c.failures; quiets = c.quiets; ends = c.ends; reads = length c.reads.items; given = bytes_in c.given.items; taken = bytes_in c.taken.items }

abbrev pub inner_of : {T : Type 0} → Counted T → T
inner_of c = c.inner

-- the largest count
abbrev pub count_max : ℕ
count_max = 18446744073709551615

-- each count may still rise
pub record CanCount (s : StreamState) : Type 0 where
  pub failures : s.failures < count_max
  pub quiets : s.quiets < count_max
  pub ends : s.ends < count_max

abbrev pub one_failure : StreamState → StreamState
one_failure s = record s { failures = s.failures + 1 }

abbrev pub one_quiet : StreamState → StreamState
one_quiet s = record s { quiets = s.quiets + 1 }

abbrev pub one_end : StreamState → StreamState
one_end s = record s { ends = s.ends + 1 }

-- after a read that left these bytes in its buffer
abbrev pub after_read : StreamState → Got → List ℕ → StreamState
after_read s (got.Bytes n) buf = record s { reads = s.reads + 1; given = s.given ++ take n buf }
after_read s got.End buf = one_end s
after_read s got.Quiet buf = one_quiet s
after_read s got.Fault buf = one_failure s

-- after a write of these bytes
abbrev pub after_write : StreamState → Put → List ℕ → StreamState
after_write s (put.Bytes n) buf = record s { taken = s.taken ++ take n buf }
after_write s put.Fault buf = one_failure s

-- how many bytes were written out
abbrev pub sent_count : Sent → ℕ
sent_count (sents.All n) = n
sent_count (sents.Fault n) = n

-- all of the bytes, or less
abbrev pub IsSentCount : List ℕ → Sent → Type 0
IsSentCount bytes (sents.All n) = n ≡ length bytes
IsSentCount bytes (sents.Fault n) = n < length bytes

-- after writes that took these bytes together, up to one that failed or to the last
abbrev pub after_writes : StreamState → List ℕ → Sent → StreamState
after_writes s bytes (sents.All n) = record s { taken = s.taken ++ bytes }
after_writes s bytes (sents.Fault n) = one_failure (record s { taken = s.taken ++ bytes })

abbrev pub after_flush : {X E : Type 0} → StreamState → Result X E → StreamState
after_flush s (Ok x) = s
after_flush s (Err e) = one_failure s

-- a failed write is counted, and nothing else
pub record CountsWrite {X E : Type 0} (r : Result X E) (old new : StreamState) : Type 0 where
  pub failures : new.failures ≡ (if is_err r then old.failures + 1 else old.failures)
  pub quiets : new.quiets ≡ old.quiets
  pub ends : new.ends ≡ old.ends

-- what a read gave, and what it did to the bytes that the reader has left, where those are known
abbrev pub Gives : Option (List ℕ) → Option (List ℕ) → List ℕ → Got → Type 0
Gives old new buf (got.Bytes n) = (0 < n) × (n ≤ length buf) × Consumes old new (take n buf)
Gives old new buf got.End = Keeps old new × IsAtEnd new
Gives old new buf got.Quiet = Keeps old new
Gives old new buf got.Fault = Keeps old new

-- what a write took, and what it did to the bytes that the writer has, where those are known
abbrev pub Takes : Option (List ℕ) → Option (List ℕ) → List ℕ → Put → Type 0
Takes old new buf (put.Bytes n) = (0 < n) × (n ≤ length buf) × Appends old new (take n buf)
Takes old new buf put.Fault = Keeps old new

-- a reader that gave nothing in time is quiet, and any other error is a failure
abbrev pub got_of_error : ErrorKind → Got
got_of_error kinds.WouldBlock = got.Quiet
got_of_error kinds.TimedOut = got.Quiet
got_of_error kind = got.Fault

-- no byte is the end of the input
abbrev pub got_of : Result ℕ Error → Got
got_of (Ok n) = if n == 0 then got.End else got.Bytes n
got_of (Err e) = got_of_error (error_kind e)

-- a write of no byte is a failure, as is each error
abbrev pub put_of : Result ℕ Error → Put
put_of (Ok n) = if n == 0 then put.Fault else put.Bytes n
put_of (Err e) = put.Fault
