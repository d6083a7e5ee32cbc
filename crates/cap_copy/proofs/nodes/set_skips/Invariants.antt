use Rattle.cap_copy.proofs.Prelude.{◌≡◌, ℕ, ◌<◌, ◌≤◌, length, slice_index, IsSkip}
use Rattle.cap_copy.proofs.nodes.set_skips.Given as goal

abbrev pub invariant-loop-index : goal.invariant-loop-index
invariant-loop-index g l = record {
  within : l.index ≤ length l.nodes;
  count : length l.skips.items ≡ length l.nodes;
  each : (i : ℕ) → l.index ≤ i → i < length l.nodes → IsSkip l.nodes i (slice_index l.skips.items i);
  next : IsSkip l.nodes l.index l.skip;
}

abbrev pub decreases-loop-index : goal.decreases-loop-index
decreases-loop-index g l = l.index
