use Rattle.std.proofs.Common.{◌+◌, ◌≤◌, length}
use Rattle.cap_explain.proofs.parts.put_lines.Given as goal

-- each line so far has a byte of the text at least
abbrev pub invariant-loop-rest : goal.invariant-loop-rest
invariant-loop-rest l = l.number + length l.rest ≤ length l.text

abbrev pub decreases-loop-rest : goal.decreases-loop-rest
decreases-loop-rest l = length l.rest
