-- What becomes of an answer that a signal interrupted.
use Rattle.std.specs.Prelude.{◌≡◌, ℕ, Result, Ok, Err}
use Rattle.std.specs.IoError.{error_kind}
use Rattle.std.specs.declared.io.Error.{Error}
use Rattle.std.specs.declared.io.ErrorKind.{ErrorKind}
use Rattle.std.specs.declared.io.ErrorKind.TheVariants as kinds

-- a read that was interrupted gave nothing in time
abbrev pub kind_after : ErrorKind → ErrorKind
kind_after kinds.Interrupted = kinds.WouldBlock
kind_after kind = kind

-- the same answer, but for the kind of an interruption
abbrev pub IsUninterrupted : Result ℕ Error → Result ℕ Error → Type 0
IsUninterrupted (Ok n) result = result ≡ Ok n
IsUninterrupted (Err e) (Ok n) = ⊥
IsUninterrupted (Err e) (Err r) = error_kind r ≡ kind_after (error_kind e)
