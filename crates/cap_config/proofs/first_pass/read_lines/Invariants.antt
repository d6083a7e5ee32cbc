use Rattle.cap_config.proofs.Prelude.{◌+◌, ◌≤◌, List, ℕ, length, lines, HasAll}
use Rattle.cap_config.proofs.NextLine.{SoFar}
use Rattle.cap_config.proofs.first_pass.read_lines.Given as goal

-- the lines so far, and what they set
abbrev pub invariant-loop-rest : goal.invariant-loop-rest
invariant-loop-rest l = record {
  small : l.line + length l.rest ≤ length l.text;
  so_far : (keys : List (List ℕ)) × HasAll l.keys keys × SoFar (lines l.text) (lines l.rest) l.line keys l.entries.items;
}

abbrev pub decreases-loop-rest : goal.decreases-loop-rest
decreases-loop-rest l = length l.rest
