use Rattle.cap_workers.proofs.Prelude.{◌∙◌}
use Rattle.cap_workers.proofs.Turns.{schedules_follow}
use Rattle.cap_workers.specs.Scheduling.{Schedules, seat_of}
use Rattle.cap_workers.proofs.scheduler.Turning.take.Goals.{in-Some, in-None}
use Rattle.cap_workers.proofs.scheduler.Turning.take.Goals as goal

pub returns : goal.returns
returns g c =
    let done : Schedules g.J.Naming.opening g.J.Naming.limit c.args.self.now.worker (seat_of c.args.self.now.seeing) c.match-lane.self.worker (seat_of c.match-lane.self.seeing) c.match-lane.ended =
    elim c.match-lane.branch [ in-Some w ↦ rw (w.self-is, w.ended-is) (w.schedule_by_lane.ensures.own ∙ c.requires w.in-Some.lane w.in-Some.is, w.schedule_by_lane.ensures.offers) | in-None w ↦ rw (w.self-is, w.ended-is) w.schedule.ensures ] in
    schedules_follow _ _ _ _ _ _ _ c.match-lane.ended done c.catch_up-caught_up.ensures
