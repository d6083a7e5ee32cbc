use Rattle.std.proofs.Common.{◌≡◌}
use Rattle.engine_tests.proofs.lanes.passing.put_all.Given as goal

abbrev pub invariant-loop-app : goal.invariant-loop-app
invariant-loop-app g l = record {
  lanes : l.putter.lanes ≡ l.fn.putter.lanes;
}
