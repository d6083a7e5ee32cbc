use Rattle.cap_serving.proofs.Prelude.{◌≡◌, ◌∙◌, subst, arith, Reply, resources, IsOfKind, kind_of}
use Rattle.cap_serving.proofs.Together.{can_go_on, may_answer, answered_none, answered_more, answered_whole}
use Rattle.cap_serving.proofs.batches.answer_calls.Goals as goal

pub loop-receipt-init : goal.loop-receipt-init
loop-receipt-init c = λ calls by. answered_none c.args.session.now

pub unreachable-requires : goal.unreachable-requires
unreachable-requires c =
    let (calls, by) = c.requires.calls in
    let x = can_go_on c.args.session.now c.loop-receipt.session c.args.receipts.now calls c.loop-receipt.receipt-index by (c.loop-receipt.invariant calls by) c.loop-receipt-test.true in
    let called = c.receipt-item.is ∙ x.at.receipt_is c.receipt-item.result in
    let committed = c.in_default.is in
    cc

pub answer-requires : goal.answer-requires
answer-requires c =
    let (calls, by) = c.requires.calls in
    let x = can_go_on c.args.session.now c.loop-receipt.session c.args.receipts.now calls c.loop-receipt.receipt-index by (c.loop-receipt.invariant calls by) c.loop-receipt-test.true in
    let called = c.receipt-item.is ∙ x.at.receipt_is c.receipt-item.result in
    let is = c.in-Call.is in
    let same : x.at.call.reply ≡ c.in-Call.reply = cc in
    may_answer c.loop-receipt.session.opens x.at.call.request c.in-Call.reply x.next (subst (λ (r : Reply resources). IsOfKind (kind_of x.at.call.request) r) same x.at.kind)

pub loop-receipt-preserved : goal.loop-receipt-preserved
loop-receipt-preserved c = λ calls by.
    let done = c.loop-receipt.invariant calls by in
    let x = can_go_on c.args.session.now c.loop-receipt.session c.args.receipts.now calls c.loop-receipt.receipt-index by done c.loop-receipt-test.true in
    let called = c.receipt-item.is ∙ x.at.receipt_is c.receipt-item.result in
    let is = c.in-Call.is in
    let same : c.in-Call.reply ≡ x.at.call.reply = cc in
    answered_more c.args.session.now c.loop-receipt.session c.answer.new.self c.args.receipts.now calls c.loop-receipt.receipt-index c.in-Call.reply done x same c.answer.ensures.answered c.answer.ensures.spells

pub returns : goal.returns
returns c = λ calls by. answered_whole c.args.session.now c.loop-receipt.session c.args.receipts.now calls c.loop-receipt.receipt-index (c.loop-receipt.invariant calls by) by.are (omega (arith, c.loop-receipt-test.false, c.loop-receipt.auto.receipt-index-end))
