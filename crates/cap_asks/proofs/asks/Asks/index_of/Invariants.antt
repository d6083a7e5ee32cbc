use Rattle.cap_asks.proofs.Prelude.{◌≤◌, ◌-◌, length, index_of}
use Rattle.cap_asks.proofs.asks.Asks.index_of.Given as goal

-- the index of the key is between the two ends
abbrev pub invariant-loop-low : goal.invariant-loop-low
invariant-loop-low g l = record {
  low : l.low ≤ index_of l.key l.items;
  high : index_of l.key l.items ≤ l.high;
  within : l.high ≤ length l.items;
}

abbrev pub decreases-loop-low : goal.decreases-loop-low
decreases-loop-low g l = l.high - l.low
