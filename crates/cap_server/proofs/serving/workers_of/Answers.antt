use Rattle.std.proofs.Common.{◌≡◌, List, subst, sym}
use Rattle.std.specs.Prelude.{IfSome}
use Rattle.std.specs.List.{All}
use Rattle.std.proofs.lemmas.List.Elements.{All-push}
use Rattle.cap_base.specs.Limits.{resources}
use Rattle.cap_model.specs.Flat.{opened_cluster}
use Rattle.cap_workers.specs.declared.idle.IdleWorker.{IdleWorker}
use Rattle.cap_server.proofs.Epochs.{one_worker_more}
use Rattle.cap_server.proofs.serving.workers_of.Goals.{in-Follow+in_ok-from_config-in-Follow, in-Copy}
use Rattle.cap_server.proofs.serving.workers_of.Goals as goal

pub loop-number-preserved : goal.loop-number-preserved
loop-number-preserved c =
    let P : IdleWorker → Type 0 = λ w. IfSome w.cluster (λ own. own.flat ≡ opened_cluster {K = resources} c.args.config.now) in
    let w : IdleWorker = record { worker = c.new-worker.result; cluster = c.match-sizes.cluster } in
    let own : P w = elim c.match-sizes.branch [ in-Follow+in_ok-from_config-in-Follow f ↦ rw f.cluster-is f.in_ok-from_config-in-Follow.ensures | in-Copy f ↦ rw f.cluster-is tt ] in
    record {
      same = subst (λ (ws : List IdleWorker). All P ws) (sym c.in-Ok.ensures.items) (All-push P c.loop-number.workers.items w c.loop-number.invariant.same own);
      new = one_worker_more c.loop-number.number c.loop-number.workers.items c.push.new.self.items w c.in-Ok.ensures.items c.loop-number.invariant.new c.new-worker.ensures;
    }
