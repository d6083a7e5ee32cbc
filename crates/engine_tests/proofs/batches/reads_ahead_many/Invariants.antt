use Rattle.std.proofs.Common.{◌≡◌, []}
use Rattle.engine_tests.proofs.batches.reads_ahead_many.Given as goal

-- none is open
abbrev pub invariant-loop : goal.invariant-loop
invariant-loop l = l.session.opens ≡ []
