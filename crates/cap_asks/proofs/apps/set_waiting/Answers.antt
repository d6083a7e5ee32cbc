use Rattle.std.proofs.Common.{rules}
use Rattle.std.proofs.lemmas.List.Sorted.{answers_always}
use Rattle.cap_asks.proofs.Prelude.{ℕ, cond, sym, ap, ◌∙◌, insert, with_entry, without_entry}
use Rattle.cap_asks.proofs.Waiters.{with_found, with_absent, without_found, without_absent}
use Rattle.cap_asks.proofs.apps.set_waiting.Goals.{in-Ok, in-Err}
use Rattle.cap_asks.proofs.apps.set_waiting.Goals as goal

pub returns-in-Ok-insert-clause-items : goal.returns-in-Ok-insert-clause-items
returns-in-Ok-insert-clause-items c =
    let ws = c.args.waiting.now.items in
    c.in-Ok-insert.ensures.items
    ∙ elim c.match-found.branch [
      | in-Ok w ↦ ap (λ i. insert ws i (c.args.n, c.args.slot)) w.index-is ∙ sym (with_found c.args.n ws c.requires.rising c.args.slot w.in-Ok.index (rw c.deref.ensures.value at w.in-Ok.ensures.position (λ (y : ℕ × ℕ). y.0) (answers_always _ _ _ (λ f a r g called. search rules))))
      | in-Err w ↦ ap (λ i. insert ws i (c.args.n, c.args.slot)) w.index-is ∙ sym (with_absent c.args.n ws c.requires.rising c.args.slot w.in-Err.index (rw c.deref.ensures.value at w.in-Err.ensures.position (λ (y : ℕ × ℕ). y.0) (answers_always _ _ _ (λ f a r g called. search rules))))
    ]
    ∙ sym (ap (λ w. cond w (with_entry c.args.n c.args.slot ws) (without_entry c.args.n ws)) c.if-waits.true)

pub returns-in-Ok-found-clause-items : goal.returns-in-Ok-found-clause-items
returns-in-Ok-found-clause-items c =
    let ws = c.args.waiting.now.items in
    c.remove.ensures.items ∙ sym (ap (λ w. cond w (with_entry c.args.n c.args.slot ws) (without_entry c.args.n ws)) c.if-waits.false ∙ without_found c.args.n ws c.requires.rising c.in-Ok-found.index (rw c.deref.ensures.value at c.in-Ok-found.ensures.position (λ (y : ℕ × ℕ). y.0) (answers_always _ _ _ (λ f a r g called. search rules))))

pub returns-in_default-found-clause-items : goal.returns-in_default-found-clause-items
returns-in_default-found-clause-items c =
    let ws = c.args.waiting.now.items in
    sym (ap (λ w. cond w (with_entry c.args.n c.args.slot ws) (without_entry c.args.n ws)) c.if-waits.false ∙ without_absent c.args.n ws c.requires.rising c.in_default-found.field-0 (rw c.deref.ensures.value at c.in_default-found.ensures.position (λ (y : ℕ × ℕ). y.0) (answers_always _ _ _ (λ f a r g called. search rules))))
