use Rattle.std.proofs.Common.{◌≡◌}
use Rattle.engine_tests.proofs.lanes.passing.take_all.Given as goal

abbrev pub invariant-loop : goal.invariant-loop
invariant-loop g l = record {
  lanes : l.committer.lanes ≡ l.fn.committer.lanes;
}
