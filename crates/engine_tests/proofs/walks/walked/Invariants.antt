use Rattle.std.proofs.Common.{◌<◌, length, IfSome}
use Rattle.engine_tests.proofs.walks.walked.Given as goal

abbrev pub invariant-loop-i : goal.invariant-loop-i
invariant-loop-i l = IfSome l.next (λ index. index < length l.places.items)
