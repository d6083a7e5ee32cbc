use Rattle.cap_asks.proofs.Prelude.{◌≡◌}
use Rattle.cap_asks.proofs.Impossible.{AreSeenTo}
use Rattle.cap_asks.proofs.asks.Asks.node_came.Given as goal

abbrev pub invariant-loop-index : goal.invariant-loop-index
invariant-loop-index g l = record {
  seen : AreSeenTo l.host l.rack l.total l.self-inside.impossible.marks l.initial.self-inside.impossible.marks l.initial.self-inside.items.items l.index;
  items : l.self-inside.items ≡ l.initial.self-inside.items;
  room : l.self-inside.impossible.room ≡ l.initial.self-inside.impossible.room;
}
