use Rattle.std.proofs.Common.{◌≡◌, ◌+◌, length}
use Rattle.engine_tests.proofs.batches.refuse_open.Given as goal

-- so many are still open
abbrev pub invariant-loop : goal.invariant-loop
invariant-loop l = length l.session.opens + l.counter ≡ l.fn.count
