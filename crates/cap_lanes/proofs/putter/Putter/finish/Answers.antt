use Rattle.cap_lanes.proofs.Prelude.{ap, ◌∙◌, worker_side, lanes_id, sends_on}
use Rattle.cap_lanes.proofs.putter.Putter.finish.Goals as goal

pub returns : goal.returns
returns g c = ap (worker_side (lanes_id (sends_on c.self.inside.back)) c.self.inside.worker) c.put_end.ensures.put ∙ c.self.view_is
