use Rattle.cap_workers.proofs.Prelude.{length, ◌∙◌}
use Rattle.cap_workers.proofs.Leavers.{maps_one, one_followed, one_seat_more, one_works, yields_one}
use Rattle.cap_workers.proofs.idle.leave_all.Goals as goal

pub loop-one-preserved : goal.loop-one-preserved
loop-one-preserved g c =
    let i = c.loop-one.invariant in
    let seeing = c.into_parts-seeing in
    let seat = c.into_parts-seat in
    record {
      all = yields_one c.loop-one.yielded c.loop-one.one-iterator.rest.items c.next.new.self.rest.items c.args.scheduled.items c.in-Some.one i.all c.in-Some.ensures.steps.0;
      count = one_seat_more c.loop-one.seats.items c.push.new.self.items seat.result.0 (length c.args.seats.now.items) c.loop-one.yielded c.in-Some.one c.in-Ok.ensures.items i.count;
      work = one_works g.J.Naming.opening g.J.Naming.limit c.loop-one.seats.items c.push.new.self.items c.loop-one.lanes.items c.add_ended.new.lanes.items c.loop-one.yielded c.in-Some.one seat.result.0 seeing.result.2 c.in-Ok.ensures.items c.in_ok-add_ended.ensures
          (seat.ensures.seat ∙ seeing.ensures.seat) seeing.ensures.ended seeing.ensures.works i.work;
      followed = one_followed c.loop-one.seats.items c.push.new.self.items c.loop-one.leaving.items c.push-in-loop-one.new.self.items seat.result.0 (seeing.result.0, seat.result.1) c.in-Ok.ensures.items c.in-Ok-push.ensures.items i.followed seat.ensures.follows;
      back = maps_one (λ w. w.0) (λ w. w.worker) c.loop-one.leaving.items c.push-in-loop-one.new.self.items (seeing.result.0, seat.result.1) c.loop-one.yielded c.in-Some.one c.in-Ok-push.ensures.items i.back seeing.ensures.worker;
    }
