use Rattle.std.proofs.Common.{◌≡◌, Some, [], ◌∷◌, sym, ◌∙◌}
use Rattle.std.specs.Prelude.{IfSome}
use Rattle.std.proofs.lemmas.List.Elements.{All-cons, All-nil}
use Rattle.cap_workers.specs.declared.idle.IdleWorker.{IdleWorker}
use Rattle.worker_tests.proofs.committing.open.Goals as goal

pub returns-clause-same : goal.returns-clause-same
returns-clause-same c =
    let made = c.in-Ok-Ok-Ok in
    let P : IdleWorker → Type 0 = λ w. IfSome w.cluster (λ own. own.flat ≡ made.cluster.flat) in
    let w0 : IdleWorker = record { worker = c.new-3.result; cluster = Some made.first } in
    let w1 : IdleWorker = record { worker = c.new-4.result; cluster = Some made.second } in
    All-cons P w0 (w1 ∷ []) (made.ensures' ∙ sym made.ensures) (All-cons P w1 [] (made.ensures'' ∙ sym made.ensures) (All-nil P))
