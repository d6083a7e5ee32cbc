use Rattle.cap_tree.proofs.Prelude.{ℕ, ◌-◌, ◌<◌, ◌≤◌, length, get_or}
use Rattle.cap_tree.proofs.queue.place_of.Given as goal

abbrev pub invariant-loop-low : goal.invariant-loop-low
invariant-loop-low l = record {
  within : l.high ≤ length l.numbers;
  ordered : l.low ≤ l.high;
  before : (k : ℕ) → k < l.low → get_or l.numbers k 0 ≤ l.number;
  after : (k : ℕ) → l.high ≤ k → k < length l.numbers → l.number < get_or l.numbers k 0;
}

abbrev pub decreases-loop-low : goal.decreases-loop-low
decreases-loop-low l = l.high - l.low
