use Rattle.std.proofs.Common.{List, subst, sym}
use Rattle.cap_base.specs.Limits.{resources}
use Rattle.cap_model.specs.Flat.{Flat}
use Rattle.cap_workers.specs.Idle.{AllAre}
use Rattle.cap_workers.specs.declared.idle.IdleWorker.{IdleWorker}
use Rattle.cap_server.proofs.epoch.epoch.Goals as goal

pub named_epoch-requires-clause-workers : goal.named_epoch-requires-clause-workers
named_epoch-requires-clause-workers g c κs within =
    subst (λ (ws : List IdleWorker). AllAre c.into_parts-cluster.result.0.flat ws) (sym c.into_parts-cluster.ensures.workers)
    (subst (λ (x : Flat resources). AllAre x c.args.carried.workers.items) (sym c.into_parts-cluster.ensures.cluster) c.requires)
