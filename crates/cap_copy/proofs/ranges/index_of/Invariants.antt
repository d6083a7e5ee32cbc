use Rattle.cap_copy.proofs.Prelude.{◌≡◌, ℕ, ◌-◌, ◌<◌, ◌≤◌, length, map, Some, slice_get, AskRange, range_in}
use Rattle.cap_copy.proofs.ranges.index_of.Given as goal

-- what stands before the one end is of earlier applications, and what stands from the other on is not
abbrev pub invariant-loop-low : goal.invariant-loop-low
invariant-loop-low g l = record {
  within : l.high ≤ length l.apps;
  ordered : l.low ≤ l.high;
  below : (i : ℕ) (b : AskRange) → i < l.low → slice_get (map range_in l.apps) i ≡ Some b → b.app < l.app;
  above : (i : ℕ) (b : AskRange) → l.high ≤ i → slice_get (map range_in l.apps) i ≡ Some b → l.app ≤ b.app;
}

abbrev pub decreases-loop-low : goal.decreases-loop-low
decreases-loop-low g l = l.high - l.low
