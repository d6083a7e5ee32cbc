use Rattle.cap_serving.proofs.Prelude.{List, take, resources, Call, IsAnsweredBy, AnsweredAll}
use Rattle.cap_serving.proofs.batches.answer_calls.Given as goal

-- the first calls were answered
abbrev pub invariant-loop-receipt : goal.invariant-loop-receipt
invariant-loop-receipt l = (calls : List (Call resources)) → IsAnsweredBy l.fn.session.opens l.fn.receipts calls → AnsweredAll l.fn.session l.session (take l.receipt-index calls)
