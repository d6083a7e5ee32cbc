use Rattle.cap_workers.proofs.Leavers.{one_more, yields_one}
use Rattle.cap_workers.proofs.idle.in_order.Goals as goal

pub loop-first-preserved : goal.loop-first-preserved
loop-first-preserved g c = record {
  all = yields_one c.loop-first.yielded c.loop-first.first-iterator.rest.items c.next.new.self.rest.items c.args.firsts.items c.in-Some.first c.loop-first.invariant.all c.in-Some.ensures.steps.0;
  same = one_more (λ w. w.first) c.loop-first.ordered.items c.push.new.self.items c.in-Some-take_begun.one c.loop-first.yielded c.in-Some.first c.in-Ok-push.ensures.items c.loop-first.invariant.same c.in-Some-take_begun.ensures;
}
