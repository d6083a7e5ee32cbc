use Rattle.std.specs.Array.Iter.{array_into_iter_items}
use Rattle.cap_workers.specs.Lanes.{IsNewLane}
use Rattle.cap_workers.proofs.Leavers.{at_middle, yields_one}
use Rattle.cap_workers.proofs.lane.lanes_of.Goals as goal

pub new-requires : goal.new-requires
new-requires g c =
    at_middle (IsNewLane g.J.LaneNaming.lanes) c.loop-putter.yielded (array_into_iter_items c.loop-putter.putter-iterator) (array_into_iter_items c.next.new.self) c.args.putters c.in-Some.putter c.loop-putter.invariant.all c.in-Some.ensures.steps c.requires

pub loop-putter-preserved : goal.loop-putter-preserved
loop-putter-preserved g c = record {
  all = yields_one c.loop-putter.yielded (array_into_iter_items c.loop-putter.putter-iterator) (array_into_iter_items c.next.new.self) c.args.putters c.in-Some.putter c.loop-putter.invariant.all c.in-Some.ensures.steps;
}
