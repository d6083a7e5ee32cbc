use Rattle.cap_workers.specs.Idle.{AllAre}
use Rattle.cap_server.specs.Epochs.{LeadsThrough, standing}
use Rattle.cap_server.proofs.serving.run_epochs.Given as goal

abbrev pub invariant-loop : goal.invariant-loop
invariant-loop g l = record {
  leads : LeadsThrough l.fn.state.limit (standing l.fn.carried.cluster.flat l.fn.carried.workers.items) l.totals (standing l.carried.cluster.flat l.carried.workers.items);
  workers : AllAre l.carried.cluster.flat l.carried.workers.items;
}
