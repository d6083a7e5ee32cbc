use Rattle.cap_text.proofs.Prelude.{◌≡◌, ℕ, ◌-◌, ◌<◌, ◌≤◌, length, get_or, true, is_space}
use Rattle.cap_text.proofs.trim.from_first_word.Given as goal

-- only spaces so far
abbrev pub invariant-loop-start : goal.invariant-loop-start
invariant-loop-start l = record {
  within : l.start ≤ length l.bytes;
  spaces : (k : ℕ) → k < l.start → is_space (get_or l.bytes k 0) ≡ true;
}

abbrev pub decreases-loop-start : goal.decreases-loop-start
decreases-loop-start l = length l.bytes - l.start
