use Rattle.cap_lanes.proofs.Puts.{side_put}
use Rattle.cap_lanes.proofs.putter.Putter.put.Goals as goal

pub returns : goal.returns
returns g c = side_put _ _ _ _ _ _ _ c.self.view_is c.put_proposal.ensures.put
