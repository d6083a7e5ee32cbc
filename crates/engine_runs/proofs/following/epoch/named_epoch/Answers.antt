use Rattle.std.proofs.Common.{◌≡◌, List, [], subst, sym}
use Rattle.std.proofs.lemmas.List.Elements.{All-cons, All-nil}
use Rattle.std.specs.Prelude.{IfSome}
use Rattle.cap_workers.specs.Idle.{AllAre}
use Rattle.cap_workers.specs.declared.idle.IdleWorker.{IdleWorker}
use Rattle.engine_runs.proofs.following.epoch.named_epoch.Goals as goal

pub begin_epoch-begun-requires-clause-same : goal.begin_epoch-begun-requires-clause-same
begin_epoch-begun-requires-clause-same g c =
    let P : IdleWorker → Type 0 = λ w. IfSome w.cluster (λ own. own.flat ≡ g.J.Naming.opening) in
    subst (λ (ws : List IdleWorker). AllAre g.J.Naming.opening ws) (sym c.in-Ok-from_array.ensures.items) (All-cons P c.args.worker [] c.requires.same (All-nil P))
