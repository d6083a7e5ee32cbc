use Rattle.cap_tree.proofs.Prelude.{◌-◌, ◌≤◌, length}
use Rattle.cap_tree.proofs.branch.place_of.Given as goal

abbrev pub invariant-loop-low : goal.invariant-loop-low
invariant-loop-low g l = (l.low ≤ l.high) × (l.high ≤ length l.names)

abbrev pub decreases-loop-low : goal.decreases-loop-low
decreases-loop-low g l = l.high - l.low
