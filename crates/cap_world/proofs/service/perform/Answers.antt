use Rattle.cap_world.proofs.Prelude.{◌≡◌, ◌∙◌, sym, subst, arith, full_reply, resources, Reply}
use Rattle.cap_grammar.specs.Spelling.{IsOfKind, kind_of}
use Rattle.cap_world.proofs.ServedRequests.{may_answer}
use Rattle.cap_world.proofs.service.perform.Goals as goal

pub own-reply-requires : goal.own-reply-requires
own-reply-requires c =
    let new = c.dispatch-given.new.cluster.flat in
    let fits = c.requires.reply (full_reply new c.dispatch-given.result) new c.dispatch-given.ensures.replies in
    (omega (arith), (omega (arith), (omega (arith), (omega (arith), (omega (arith), rw c.view.ensures fits)))))

pub answer-requires : goal.answer-requires
answer-requires c =
    let given = full_reply c.dispatch-given.new.cluster.flat c.dispatch-given.result in
    let same : c.own-reply.result ≡ given = c.own-reply.ensures ∙ c.view.ensures in
    may_answer c.args.request c.args.session.now.opens c.own-reply.result c.requires.open (subst (λ (r : Reply resources). IsOfKind (kind_of c.args.request) r) (sym same) c.dispatch-given.ensures.kind)
