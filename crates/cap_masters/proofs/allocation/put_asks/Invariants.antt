use Rattle.cap_masters.proofs.Prelude.{◌≡◌, ◌+◌, ◌≤◌, length, take, after_asks, ask_room}
use Rattle.cap_masters.proofs.allocation.put_asks.Given as goal

-- the asks so far were put, and there is room for the others
abbrev pub invariant-loop-ask : goal.invariant-loop-ask
invariant-loop-ask g l = record {
  put : l.cluster.flat ≡ after_asks l.app (take l.ask-index l.asks) l.fn.cluster.flat;
  room : length l.asks ≤ ask_room l.app l.cluster.accounts + l.ask-index;
}
