use Rattle.cap_shared.proofs.Prelude.{sym, ◌∙◌, full_reply}
use Rattle.cap_shared.proofs.Following.{call_made_again}
use Rattle.cap_shared.proofs.deed.call_again.Goals as goal

pub returns-clause-ok : goal.returns-clause-ok
returns-clause-ok c =
    let old = c.args.cluster.now.flat in
    let new = c.dispatch_view-answer.new.cluster.flat in
    let answered = sym (c.is_no_memory.ensures new) ∙ c.if-is_no_memory.false in
    call_made_again old new c.args.request.now (full_reply new c.dispatch_view-answer.result) (rw c.view.ensures at c.dispatch_view-answer.ensures.replies) answered
