use Rattle.cap_workers.proofs.Prelude.{◌≡◌, ◌++◌, map}
use Rattle.std.specs.List.{All}
use Rattle.std.specs.Option.{ForSome}
use Rattle.cap_workers.specs.Idle.{IsFresh}
use Rattle.cap_workers.proofs.idle.begin_epoch.Given as goal

-- those who have begun so far
abbrev pub invariant-loop-worker : goal.invariant-loop-worker
invariant-loop-worker g l = record {
  all : l.yielded ++ l.worker-iterator.rest.items ≡ l.fn.workers.items;
  fresh : All IsFresh l.seats.items;
  begun : map (λ s. s.worker) l.schedulers.items ≡ map (λ w. w.worker) l.yielded;
  firsts : l.firsts.items ≡ map (λ w. w.worker) l.yielded;
  own : All (λ s. ForSome s.lane (λ one. one.worker ≡ s.worker.number)) l.schedulers.items;
}
