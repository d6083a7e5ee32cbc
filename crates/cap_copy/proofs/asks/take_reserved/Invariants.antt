use Rattle.cap_copy.proofs.Prelude.{◌≡◌, map, take, beside}
use Rattle.cap_copy.proofs.asks.take_reserved.Given as goal

abbrev pub invariant-loop-node : goal.invariant-loop-node
invariant-loop-node g l = l.asks.items ≡ map (beside (take l.node-index l.nodes)) l.initial.asks.items
