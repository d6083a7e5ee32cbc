use Rattle.std.proofs.Common.{◌≡◌, length}
use Rattle.cap_copy.proofs.Reserving.{IsTakenTo}
use Rattle.cap_copy.proofs.asks.take_one.Given as goal

abbrev pub invariant-loop-index : goal.invariant-loop-index
invariant-loop-index g l = record {
  count : length l.asks.items ≡ length l.initial.asks.items;
  taken : IsTakenTo l.reservation l.initial.asks.items l.index l.asks.items;
}
