use Rattle.cap_audit.proofs.Prelude.{◌≡◌, ◌++◌, List, ℕ, length, true, lacks, IsPlayed}
use Rattle.cap_audit.proofs.player.play_piece.Given as goal

-- what is begun and what is left stand after the lines that were played
abbrev pub invariant-loop-last : goal.invariant-loop-last
invariant-loop-last l = record {
  clean : lacks 10 l.begun.items ≡ true;
  played : (text : List ℕ) → IsPlayed text l.fn.begun.items l.fn.auditor → IsPlayed (text ++ l.piece) (l.begun.items ++ l.rest) l.auditor;
}

abbrev pub decreases-loop-last : goal.decreases-loop-last
decreases-loop-last l = length l.rest
