use mathlib.Core.List.{IsPrefix}
use Rattle.std.specs.Prelude.{IfSome}
use Rattle.cap_shared.specs.Parts.{Content}
use Rattle.cap_workers.specs.declared.worker.Worker.{Worker}
use Rattle.cap_workers.proofs.Prelude.{Option, refl}
use Rattle.cap_workers.proofs.Leavers.{at_middle, maps_one, one_is, yields_one}
use Rattle.cap_workers.proofs.idle.carry_on.Goals as goal

pub carried-requires-clause-begins : goal.carried-requires-clause-begins
carried-requires-clause-begins g c =
    at_middle (λ (w : Worker × Option Content). IfSome w.1 (λ own. IsPrefix own.log c.args.closed.now.journal.items)) c.loop-worker.yielded c.loop-worker.worker-iterator.rest.items c.next.new.self.rest.items c.args.leaving.items (c.in-Some.worker, c.in-Some.replica)
    c.loop-worker.invariant.all c.in-Some.ensures.steps.0 c.requires.begin

pub loop-worker-preserved : goal.loop-worker-preserved
loop-worker-preserved g c = record {
  all = yields_one c.loop-worker.yielded c.loop-worker.worker-iterator.rest.items c.next.new.self.rest.items c.args.leaving.items (c.in-Some.worker, c.in-Some.replica) c.loop-worker.invariant.all c.in-Some.ensures.steps.0;
  are = one_is c.args.closed.now.cluster.flat c.loop-worker.workers.items c.push.new.self.items (record { worker = c.in-Some.worker; cluster = c.in_ok-cluster.cluster }) c.in-Ok-push.ensures.items c.loop-worker.invariant.are c.in_ok-cluster.ensures;
  back = maps_one (λ w. w.worker) (λ w. w.0) c.loop-worker.workers.items c.push.new.self.items (record { worker = c.in-Some.worker; cluster = c.in_ok-cluster.cluster }) c.loop-worker.yielded (c.in-Some.worker, c.in-Some.replica) c.in-Ok-push.ensures.items c.loop-worker.invariant.back refl;
}
