use Rattle.cap_session.proofs.Prelude.{◌≡◌, ◌-◌, ◌++◌, ◌≤◌, length, take, Appends, state_of, inner_of}
use Rattle.cap_session.proofs.counted.Counted.write_all.Given as goal

-- the first bytes, so many as were counted, were written
abbrev pub invariant-loop-sent : goal.invariant-loop-sent
invariant-loop-sent g l = record {
  within : l.sent ≤ length l.bytes;
  state : state_of l.self ≡ record (state_of l.fn.self) { taken = (state_of l.fn.self).taken ++ take l.sent l.bytes };
  bytes : Appends (g.W.Write.contents (inner_of l.fn.self)) (g.W.Write.contents (inner_of l.self)) (take l.sent l.bytes);
}

abbrev pub decreases-loop-sent : goal.decreases-loop-sent
decreases-loop-sent g l = length l.bytes - l.sent
