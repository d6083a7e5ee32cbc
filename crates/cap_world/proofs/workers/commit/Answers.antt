use Rattle.cap_world.proofs.Prelude.{◌≡◌, ◌<◌, nat_eq, Some, refl, ap, ◌∙◌, sym, inr, arith, err_from_is_err_and, workers_max, worker_at, choice_in}
use Rattle.cap_world.proofs.Tables.{set_value_same}
use Rattle.cap_world.proofs.Starving.{commit_starved, same_workers}
use Rattle.cap_world.proofs.workers.commit.Goals as goal

pub returns-in_default-choice : goal.returns-in_default-choice
returns-in_default-choice c connections =
    let w = c.in-Some.worker.now in
    let at : worker_at c.args.number c.args.workers.now.entries ≡ Some w = sym c.in-Some.ensures.value in
    let writes = c.get_mut.follows.holds w in
    let same = writes.0 ∙ set_value_same (nat_eq c.args.number) c.args.workers.now.entries w at in
    (inr (ap choice_in at ∙ sym c.in_default-choice.ensures), same_workers _ _ connections _ _ refl same, refl)

pub returns-in_err-verdict : goal.returns-in_err-verdict
returns-in_err-verdict c connections =
    let back = err_from_is_err_and c.from_residual.result c.from_residual.ensures.1 in
    let w = c.in-Some.worker.now in
    let at : worker_at c.args.number c.args.workers.now.entries ≡ Some w = sym c.in-Some.ensures.value in
    let writes = c.get_mut.follows.holds w in
    let same = writes.0 ∙ set_value_same (nat_eq c.args.number) c.args.workers.now.entries w at in
    let below : c.args.number < workers_max = omega arith in
    commit_starved c.args.number c.from_residual.result back.0 _ _ c.args.events.now.items c.tried.new.events.items back.1
    (record { below = below; proposal = c.in-Some-choice.proposal; choice = ap choice_in at ∙ sym c.in-Some-choice.ensures; admissible = c.in_err-verdict.ensures.admissible })
    (same_workers _ _ connections _ _ c.in_err-verdict.ensures.cluster same) c.in_err-verdict.ensures.events
