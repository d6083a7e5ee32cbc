use Rattle.cap_workers.proofs.Prelude.{◌≡◌, ap, map}
use Rattle.std.specs.Option.{ForSome, option_to_list}
use Rattle.std.proofs.lemmas.List.Elements.{All-nil, All-push}
use Rattle.cap_workers.proofs.Leavers.{are_fresh, last_fresh, mapped_one, maps_one, others_fresh, yields_one}
use Rattle.cap_workers.proofs.idle.begin_epoch.Goals as goal

pub open_lanes-requires-clause-fresh : goal.open_lanes-requires-clause-fresh
open_lanes-requires-clause-fresh g c = are_fresh g.J.Naming.seats c.args.seats.now.items c.requires.fresh

pub loop-worker-init : goal.loop-worker-init
loop-worker-init g c = record {
  all = c.into_iter-worker-iterator.ensures.into_iter_gives.0;
  fresh = c.in_ok-lanes.ensures;
  begun = ap (map (λ s. s.worker)) c.in-Ok-Ok.ensures.items;
  firsts = c.in-Ok-Ok.ensures'.items;
  own = rw c.in-Ok-Ok.ensures.items (All-nil (λ s. ForSome s.lane (λ l. l.worker ≡ s.worker.number)));
}

pub begin-requires-clause-fresh : goal.begin-requires-clause-fresh
begin-requires-clause-fresh g c = last_fresh c.loop-worker.seats.items c.pop.new.self.items (option_to_list c.pop.result) c.in-Some-pop.seat c.pop.ensures.items (ap option_to_list c.in-Some-pop.is) c.loop-worker.invariant.fresh

pub loop-worker-preserved : goal.loop-worker-preserved
loop-worker-preserved g c = record {
  all = yields_one c.loop-worker.yielded c.loop-worker.worker-iterator.rest.items c.next.new.self.rest.items c.args.workers.items c.in-Some.worker c.loop-worker.invariant.all c.in-Some.ensures.steps.0;
  fresh = others_fresh c.loop-worker.seats.items c.pop.new.self.items (option_to_list c.pop.result) c.pop.ensures.items c.loop-worker.invariant.fresh;
  begun = maps_one (λ s. s.worker) (λ w. w.worker) c.loop-worker.schedulers.items c.push.new.self.items c.begin.result c.loop-worker.yielded c.in-Some.worker c.in-Ok.ensures.items c.loop-worker.invariant.begun c.begin.ensures.worker;
  firsts = mapped_one (λ w. w.worker) c.loop-worker.firsts.items c.push-in-loop-worker.new.self.items c.loop-worker.yielded c.in-Some.worker c.in-Ok-push.ensures.items c.loop-worker.invariant.firsts;
  own = rw c.in-Ok.ensures.items (All-push (λ s. ForSome s.lane (λ l. l.worker ≡ s.worker.number)) c.loop-worker.schedulers.items c.begin.result c.loop-worker.invariant.own c.begin.result.own);
}
