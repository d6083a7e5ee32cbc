use Rattle.std.specs.Prelude.{◌≡◌, map}
use Rattle.cap_base.specs.Limits.{resources}
use Rattle.cap_model.specs.Flat.{opened_cluster}
use Rattle.cap_workers.specs.Idle.{AllAre}
use Rattle.cap_server.specs.Epochs.{new_workers}
use Rattle.cap_server.proofs.serving.workers_of.Given as goal

-- those so far
abbrev pub invariant-loop-number : goal.invariant-loop-number
invariant-loop-number l = record {
  same : AllAre (opened_cluster {K = resources} l.fn.config) l.workers.items;
  new : map (λ w. w.worker) l.workers.items ≡ new_workers l.number;
}
