use Rattle.cap_text.proofs.Prelude.{◌≡◌, ℕ, ◌<◌, ◌≤◌, length, get_or, true, is_space}
use Rattle.cap_text.proofs.trim.to_last_word.Given as goal

-- only spaces from here on
abbrev pub invariant-loop-end : goal.invariant-loop-end
invariant-loop-end l = record {
  within : l.end ≤ length l.bytes;
  spaces : (k : ℕ) → l.end ≤ k → k < length l.bytes → is_space (get_or l.bytes k 0) ≡ true;
}

abbrev pub decreases-loop-end : goal.decreases-loop-end
decreases-loop-end l = l.end
