use Rattle.cap_session.proofs.Prelude.{◌≡◌, ◌++◌, take, bytes_in}
use Rattle.cap_session.proofs.counted.log_bytes.Given as goal

abbrev pub invariant-loop-byte : goal.invariant-loop-byte
invariant-loop-byte l = bytes_in l.history.items ≡ bytes_in l.fn.history.items ++ take l.byte-index l.bytes
