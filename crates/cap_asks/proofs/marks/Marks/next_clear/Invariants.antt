use Rattle.cap_asks.proofs.Prelude.{◌-◌}
use Rattle.cap_asks.specs.Impossible.{AreMarkedBetween}
use Rattle.cap_asks.proofs.marks.Marks.next_clear.Given as goal

abbrev pub invariant-loop-index : goal.invariant-loop-index
invariant-loop-index l = AreMarkedBetween l.items l.from l.index

abbrev pub decreases-loop-index : goal.decreases-loop-index
decreases-loop-index l = l.count - l.index
