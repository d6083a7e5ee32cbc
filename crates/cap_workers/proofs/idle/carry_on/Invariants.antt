use Rattle.cap_workers.proofs.Prelude.{◌≡◌, ◌++◌, map}
use Rattle.cap_workers.specs.Idle.{AllAre}
use Rattle.cap_workers.proofs.idle.carry_on.Given as goal

-- those who are carried on so far
abbrev pub invariant-loop-worker : goal.invariant-loop-worker
invariant-loop-worker g l = record {
  all : l.yielded ++ l.worker-iterator.rest.items ≡ l.fn.leaving.items;
  are : AllAre l.fn.closed.cluster.flat l.workers.items;
  back : map (λ w. w.worker) l.workers.items ≡ map (λ w. w.0) l.yielded;
}
