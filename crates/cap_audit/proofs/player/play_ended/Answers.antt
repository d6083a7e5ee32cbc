use Rattle.cap_audit.proofs.Prelude.{List, ℕ, ap, ◌∙◌, subst, strip_carriage_return, IfFalse, LeadsNowhere, LeadsOn, PlaysLine}
use Rattle.cap_audit.proofs.player.play_ended.Goals as goal

pub returns-in-Ok-clause-good : goal.returns-in-Ok-clause-good
returns-in-Ok-clause-good c =
    let line = c.without_return.ensures ∙ ap strip_carriage_return (c.deref.ensures.value ∙ c.in_ok-extend_from_slice.ensures.items) in
    subst (λ (x : List ℕ). PlaysLine x c.args.auditor.now c.play.new.self) line c.in-Ok.ensures.plays

pub returns-in-Ok-clause-only : goal.returns-in-Ok-clause-only
returns-in-Ok-clause-only c =
    let line = c.without_return.ensures ∙ ap strip_carriage_return (c.deref.ensures.value ∙ c.in_ok-extend_from_slice.ensures.items) in
    subst (λ (x : List ℕ). LeadsOn x c.args.auditor.now c.play.new.self) line c.in-Ok.ensures.only

pub returns-in-Err-clause-only : goal.returns-in-Err-clause-only
returns-in-Err-clause-only c =
    let line = c.without_return.ensures ∙ ap strip_carriage_return (c.deref.ensures.value ∙ c.in_ok-extend_from_slice.ensures.items) in
    subst (λ (x : List ℕ). IfFalse c.in-Err.stop (LeadsNowhere x c.args.auditor.now)) line c.in-Err.ensures.only
