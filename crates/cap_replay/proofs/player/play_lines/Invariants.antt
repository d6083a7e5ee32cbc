use Rattle.cap_replay.proofs.Prelude.{◌≡◌, ◌++◌, List, ℕ, length, true, lacks, IsPlayed}
use Rattle.cap_replay.proofs.player.play_lines.Given as goal

-- what is begun and what is left stand after the lines that were played
abbrev pub invariant-loop-front : goal.invariant-loop-front
invariant-loop-front l = record {
  clean : lacks 10 l.begun.items ≡ true;
  played : (text : List ℕ) → IsPlayed text l.fn.begun.items l.fn.script.simulation → IsPlayed (text ++ l.bytes) (l.begun.items ++ l.rest) l.script.simulation;
}

abbrev pub decreases-loop-front : goal.decreases-loop-front
decreases-loop-front l = length l.rest
