use Rattle.std.proofs.Common.{List, subst, sym}
use Rattle.cap_workers.specs.Idle.{AllAre}
use Rattle.cap_workers.specs.declared.idle.IdleWorker.{IdleWorker}
use Rattle.worker_tests.proofs.committing.play_under_name.Goals as goal

pub begin_epoch-begun-requires-clause-same : goal.begin_epoch-begun-requires-clause-same
begin_epoch-begun-requires-clause-same g c = subst (λ (ws : List IdleWorker). AllAre g.J.Naming.opening ws) (sym c.in-Ok-from_array.ensures.items) c.requires.same
