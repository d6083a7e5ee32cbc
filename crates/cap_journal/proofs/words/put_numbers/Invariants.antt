use Rattle.std.proofs.Common.{◌≡◌, ◌++◌, take}
use Rattle.cap_journal.specs.Lines.{blanked}
use Rattle.cap_journal.proofs.words.put_numbers.Given as goal

-- the numbers so far stand behind the words
abbrev pub invariant-loop-number : goal.invariant-loop-number
invariant-loop-number l = l.line.items ≡ l.initial.line.items ++ blanked (take l.number-index l.numbers)
