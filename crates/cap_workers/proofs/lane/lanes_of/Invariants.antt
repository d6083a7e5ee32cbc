use Rattle.cap_workers.proofs.Prelude.{◌≡◌, ◌++◌}
use Rattle.std.specs.Array.Iter.{array_into_iter_items}
use Rattle.cap_workers.proofs.lane.lanes_of.Given as goal

-- those so far
abbrev pub invariant-loop-putter : goal.invariant-loop-putter
invariant-loop-putter g l = record { all : l.yielded ++ array_into_iter_items l.putter-iterator ≡ l.fn.putters }
