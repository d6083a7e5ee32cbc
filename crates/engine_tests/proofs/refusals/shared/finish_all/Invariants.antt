use Rattle.std.proofs.Common.{◌≡◌, ◌≤◌, ◌++◌, vec_capacity}
use Rattle.std.specs.Array.Iter.{array_into_iter_items}
use Rattle.engine_tests.proofs.refusals.shared.finish_all.Given as goal

abbrev pub invariant-loop-putter : goal.invariant-loop-putter
invariant-loop-putter g l = record {
  ended : l.ended.items ≡ l.yielded;
  all : l.yielded ++ array_into_iter_items l.putter-iterator ≡ l.fn.putters;
  room : 8 ≤ vec_capacity l.ended;
}
