use Rattle.cap_workers.proofs.Prelude.{◌≡◌, ◌++◌}
use Rattle.std.specs.List.{All}
use Rattle.cap_workers.specs.Lanes.{IsLane}
use Rattle.cap_workers.proofs.committer.eight_of.Given as goal

-- those so far
abbrev pub invariant-loop-lane : goal.invariant-loop-lane
invariant-loop-lane g l = record {
  all : l.yielded ++ l.lane-iterator.rest.items ≡ l.fn.ended.items;
  same : l.ends.items ≡ l.yielded;
  lanes : All (IsLane g.J.LaneNaming.lanes) l.ends.items;
}
