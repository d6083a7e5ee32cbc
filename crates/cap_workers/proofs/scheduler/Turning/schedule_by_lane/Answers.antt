use Rattle.cap_workers.proofs.Prelude.{ap, ◌∙◌}
use Rattle.cap_lanes.specs.Sides.{WorkerSide}
use Rattle.cap_workers.proofs.Turns.{all_offered, still_lane}
use Rattle.cap_workers.proofs.scheduler.Turning.schedule_by_lane.Goals as goal

pub of-ended-requires : goal.of-ended-requires
of-ended-requires g c = still_lane g.J.LaneNaming.lanes c.into_putter-putter.ensures.fresh c.offer_all.ensures

pub returns-clause-own : goal.returns-clause-own
returns-clause-own g c =
    rw c.of-ended.ensures ((all_offered g.J.LaneNaming.lanes c.into_putter-putter.ensures.fresh c.offer_all.ensures).0 ∙ ap (λ (l : WorkerSide). l.worker) c.into_putter-putter.ensures.putter)

pub returns-clause-offers : goal.returns-clause-offers
returns-clause-offers g c = rw c.of-ended.ensures ((all_offered g.J.LaneNaming.lanes c.into_putter-putter.ensures.fresh c.offer_all.ensures).1)
