use Rattle.cap_audit.proofs.Prelude.{◌≡◌, List, ℕ, length, blanked, AreNumbers}
use Rattle.cap_audit.proofs.Blanks.{AreRead}
use Rattle.cap_audit.proofs.reading.fill_numbers.Given as goal

-- the numbers so far are those that the bytes spell, and the rest spells the others
abbrev pub invariant-loop-i : goal.invariant-loop-i
invariant-loop-i l = (all : List ℕ) → AreNumbers all → length all ≡ length l.fn.numbers → l.fn.bytes ≡ blanked all → AreRead l.rest l.numbers l.i all
