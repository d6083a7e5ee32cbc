use Rattle.cap_shared.proofs.Prelude.{sym, subst, arith, resources, Request, Replies, Content}
use Rattle.cap_shared.proofs.Entering.{last_called, last_reply}
use Rattle.cap_shared.proofs.desk.Desk.call_for_reply.Goals as goal

pub unreachable-requires : goal.unreachable-requires
unreachable-requires g c =
    let last = last_called c.args.ready.now c.args.seat.now c.call.new.seat c.receipts.result.now c.in_ok-call.ensures.answer.0 c.in_ok-call.ensures.answer.1 c.receipts.ensures.items in
    let value = c.in-Some-Commit.ensures.value in
    let is = c.in-Some-Commit.field-0-is in
    cc

pub unreachable-requires-in-None : goal.unreachable-requires-in-None
unreachable-requires-in-None g c =
    let last = last_called c.args.ready.now c.args.seat.now c.call.new.seat c.receipts.result.now c.in_ok-call.ensures.answer.0 c.in_ok-call.ensures.answer.1 c.receipts.ensures.items in
    let value = c.in-None.ensures.value in
    cc

pub own-requires : goal.own-requires
own-requires g c =
    let (r, ok, replies) = c.in_ok-call.ensures.answer in
    let same = last_reply c.args.ready.now c.args.seat.now c.call.new.seat c.receipts.result.now r ok c.receipts.ensures.items c.in-Some-Call.field-0.now c.in-Some-Call.field-0-0 c.in-Some-Call.field-0-1 c.in-Some-Call.reply c.in-Some-Call.ensures.value c.in-Some-Call.field-0-is in
    let named = subst (λ (q : Request resources). Replies c.args.self.now.cluster q r c.call.new.self.cluster) (sym c.request.ensures) replies in
    let answers = subst (λ (v : Content). Replies v.cluster c.request.result.now r c.call.new.self.cluster) (sym c.self.view_is) named in
    (omega (arith), (omega (arith), (omega (arith), (omega (arith), (omega (arith), rw (c.view.ensures, same) (c.in-Ok.ensures.room r c.call.new.self.cluster answers))))))

pub returns-clause-answer : goal.returns-clause-answer
returns-clause-answer g c =
    let (r, ok, replies) = c.in_ok-call.ensures.answer in
    let same = last_reply c.args.ready.now c.args.seat.now c.call.new.seat c.receipts.result.now r ok c.receipts.ensures.items c.in-Some-Call.field-0.now c.in-Some-Call.field-0-0 c.in-Some-Call.field-0-1 c.in-Some-Call.reply c.in-Some-Call.ensures.value c.in-Some-Call.field-0-is in
    rw (c.own.ensures, c.view.ensures, same) ok
