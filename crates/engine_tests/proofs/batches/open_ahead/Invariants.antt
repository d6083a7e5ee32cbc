use Rattle.std.proofs.Common.{◌≡◌, ◌-◌, length}
use Rattle.engine_tests.proofs.batches.open_ahead.Given as goal

-- so many are open
abbrev pub invariant-loop-count : goal.invariant-loop-count
invariant-loop-count l = length l.session.opens ≡ l.count

abbrev pub decreases-loop-count : goal.decreases-loop-count
decreases-loop-count l = l.fn.most - l.count
