use Rattle.cap_asks.proofs.Prelude.{held_at}
use Rattle.cap_asks.proofs.NodeCame.{AreSeenBefore}
use Rattle.cap_asks.proofs.apps.node_came_to.Given as goal

abbrev pub invariant-loop-slot : goal.invariant-loop-slot
invariant-loop-slot g l = AreSeenBefore l.host l.rack l.total (held_at l.apps) (held_at l.initial.apps) l.slot l.has_impossible
