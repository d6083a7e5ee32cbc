use Rattle.std.proofs.Common.{◌≡◌, []}
use Rattle.engine_tests.proofs.sessions.refuse_all.Given as goal

abbrev pub invariant-loop : goal.invariant-loop
invariant-loop l = l.session.opens ≡ []
