use Rattle.cap_workers.proofs.Closing.{new_lanes}
use Rattle.cap_workers.proofs.lane.EpochLanes.open.Goals as goal

pub lanes_of-requires : goal.lanes_of-requires
lanes_of-requires g c = new_lanes g.J.LaneNaming.lanes c.args.blank c.into_parts-committer.result.1 c.requires.lanes c.into_parts-committer.ensures.putters
