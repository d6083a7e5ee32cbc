use Rattle.cap_replay.proofs.Prelude.{◌≡◌, ◌++◌, take, blanked}
use Rattle.cap_replay.proofs.print.put_numbers.Given as goal

abbrev pub invariant-loop-number : goal.invariant-loop-number
invariant-loop-number l = l.line.items ≡ l.initial.line.items ++ blanked (take l.number-index l.numbers)
