use Rattle.cap_serving.proofs.Prelude.{List, length, ap, arith, Receipt}
use Rattle.cap_serving.specs.declared.batches.Called.TheVariants as called
use Rattle.cap_serving.proofs.Together.{newest, answered_so, receipts_stay, leaves_open, next_is, may_answer, starved_batch}
use Rattle.cap_serving.proofs.batches.answer_batch.Goals as goal

pub slice_bounds-answer_calls-count : goal.slice_bounds-answer_calls-count
slice_bounds-answer_calls-count g c =
    let stay = receipts_stay g.J.Naming.limit c.read_ahead.new.self c.call_all-called.new.session c.args.seat.now c.call_all-called.new.seat c.call_all-called.result c.call_all-called.ensures in
    omega (arith, stay, ap (λ (l : List Receipt). length l) c.receipts-earlier.ensures.items, ap (λ (l : List Receipt). length l) c.receipts.ensures.items)

pub slice_bounds-answer_calls-start : goal.slice_bounds-answer_calls-start
slice_bounds-answer_calls-start g c =
    let stay = receipts_stay g.J.Naming.limit c.read_ahead.new.self c.call_all-called.new.session c.args.seat.now c.call_all-called.new.seat c.call_all-called.result c.call_all-called.ensures in
    omega (arith, stay, ap (λ (l : List Receipt). length l) c.receipts-earlier.ensures.items, ap (λ (l : List Receipt). length l) c.receipts.ensures.items)

pub answer_calls-requires : goal.answer_calls-requires
answer_calls-requires g c = record {
  calls = answered_so g.J.Naming.limit c.read_ahead.new.self c.call_all-called.new.session c.args.seat.now c.call_all-called.new.seat c.call_all-called.result _ (newest c.args.seat.now c.call_all-called.new.seat c.receipts-earlier.result.now c.receipts.result.now c.receipts-earlier.ensures.items c.receipts.ensures.items) c.call_all-called.ensures;
}

pub answer-requires : goal.answer-requires
answer-requires g c =
    let (q, serves, opens, after) = leaves_open g.J.Naming.limit c.args.session.now c.read_ahead.new.self c.call_all-called.new.session c.answer_calls.new.session c.args.seat.now c.call_all-called.new.seat called.Starved _ (newest c.args.seat.now c.call_all-called.new.seat c.receipts-earlier.result.now c.receipts.result.now c.receipts-earlier.ensures.items c.receipts.ensures.items) c.in-Starved.ensures c.read_ahead.ensures c.requires.goes_on c.answer_calls.ensures in
    may_answer c.answer_calls.new.session.opens q _ (next_is c.answer_calls.new.session.opens q _ opens) tt

pub returns-in-Made-clause-batch : goal.returns-in-Made-clause-batch
returns-in-Made-clause-batch g c = (leaves_open g.J.Naming.limit c.args.session.now c.read_ahead.new.self c.call_all-called.new.session c.answer_calls.new.session c.args.seat.now c.call_all-called.new.seat called.Made _ (newest c.args.seat.now c.call_all-called.new.seat c.receipts-earlier.result.now c.receipts.result.now c.receipts-earlier.ensures.items c.receipts.ensures.items) c.in-Made.ensures c.read_ahead.ensures c.requires.goes_on c.answer_calls.ensures).0

pub returns-in-Made-clause-same : goal.returns-in-Made-clause-same
returns-in-Made-clause-same g c =
    let after = (leaves_open g.J.Naming.limit c.args.session.now c.read_ahead.new.self c.call_all-called.new.session c.answer_calls.new.session c.args.seat.now c.call_all-called.new.seat called.Made _ (newest c.args.seat.now c.call_all-called.new.seat c.receipts-earlier.result.now c.receipts.result.now c.receipts-earlier.ensures.items c.receipts.ensures.items) c.in-Made.ensures c.read_ahead.ensures c.requires.goes_on c.answer_calls.ensures).1 in
    (after.fed, after.sent)

pub returns-in-Starved-clause-batch : goal.returns-in-Starved-clause-batch
returns-in-Starved-clause-batch g c =
    (starved_batch g.J.Naming.limit c.args.session.now c.answer_calls.new.session c.answer.new.self c.args.seat.now c.call_all-called.new.seat (leaves_open g.J.Naming.limit c.args.session.now c.read_ahead.new.self c.call_all-called.new.session c.answer_calls.new.session c.args.seat.now c.call_all-called.new.seat called.Starved _ (newest c.args.seat.now c.call_all-called.new.seat c.receipts-earlier.result.now c.receipts.result.now c.receipts-earlier.ensures.items c.receipts.ensures.items) c.in-Starved.ensures c.read_ahead.ensures c.requires.goes_on c.answer_calls.ensures) c.answer.ensures.answered c.answer.ensures.spells).0

pub returns-in-Starved-clause-same : goal.returns-in-Starved-clause-same
returns-in-Starved-clause-same g c =
    let all = starved_batch g.J.Naming.limit c.args.session.now c.answer_calls.new.session c.answer.new.self c.args.seat.now c.call_all-called.new.seat (leaves_open g.J.Naming.limit c.args.session.now c.read_ahead.new.self c.call_all-called.new.session c.answer_calls.new.session c.args.seat.now c.call_all-called.new.seat called.Starved _ (newest c.args.seat.now c.call_all-called.new.seat c.receipts-earlier.result.now c.receipts.result.now c.receipts-earlier.ensures.items c.receipts.ensures.items) c.in-Starved.ensures c.read_ahead.ensures c.requires.goes_on c.answer_calls.ensures) c.answer.ensures.answered c.answer.ensures.spells in
    (all.1, all.2)

pub returns-in-Sealed-clause-batch : goal.returns-in-Sealed-clause-batch
returns-in-Sealed-clause-batch g c = (leaves_open g.J.Naming.limit c.args.session.now c.read_ahead.new.self c.call_all-called.new.session c.answer_calls.new.session c.args.seat.now c.call_all-called.new.seat (called.Sealed c.in-Sealed.back) _ (newest c.args.seat.now c.call_all-called.new.seat c.receipts-earlier.result.now c.receipts.result.now c.receipts-earlier.ensures.items c.receipts.ensures.items) c.in-Sealed.ensures c.read_ahead.ensures c.requires.goes_on c.answer_calls.ensures).0

pub returns-in-Sealed-clause-same : goal.returns-in-Sealed-clause-same
returns-in-Sealed-clause-same g c =
    let after = (leaves_open g.J.Naming.limit c.args.session.now c.read_ahead.new.self c.call_all-called.new.session c.answer_calls.new.session c.args.seat.now c.call_all-called.new.seat (called.Sealed c.in-Sealed.back) _ (newest c.args.seat.now c.call_all-called.new.seat c.receipts-earlier.result.now c.receipts.result.now c.receipts-earlier.ensures.items c.receipts.ensures.items) c.in-Sealed.ensures c.read_ahead.ensures c.requires.goes_on c.answer_calls.ensures).1 in
    (after.fed, after.sent)
