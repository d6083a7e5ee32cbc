use Rattle.cap_serving.proofs.Prelude.{◌∙◌}
use Rattle.cap_session.specs.declared.session.Next.TheVariants as nexts
use Rattle.cap_serving.proofs.Receipts.{serves_then}
use Rattle.cap_serving.proofs.Answering.{sealed_then, next_need, next_ended, next_request_is, next_same}
use Rattle.cap_serving.proofs.sessions.answer_all.Goals as goal

pub returns-in-Some-answer_batch-clause-pause : goal.returns-in-Some-answer_batch-clause-pause
returns-in-Some-answer_batch-clause-pause g c = sealed_then (next_request_is c.next_request.new.self c.in-Request.request c.loop.invariant.serves c.in-Request.ensures.gives).0 c.in-Some-answer_batch.ensures.batch

pub loop-preserved : goal.loop-preserved
loop-preserved g c =
    let i = c.loop.invariant in
    let gives = c.in-Request.ensures.gives in
    let is = next_request_is c.next_request.new.self c.in-Request.request i.serves gives in
    let same = next_same c.loop.session c.next_request.new.self (nexts.Request c.in-Request.request) gives in
    let batch = c.in_default-answer_batch.ensures.batch in
    record {
      serves = serves_then is.0 batch.0;
      none_open = batch.1;
      goes_on = batch.2;
      fed = c.answer_batch.ensures.same.0 ∙ same.0 ∙ i.fed;
      sent = c.answer_batch.ensures.same.1 ∙ same.1 ∙ i.sent;
    }

pub returns-in-Need-clause-pause : goal.returns-in-Need-clause-pause
returns-in-Need-clause-pause g c = next_need c.next_request.new.self c.loop.invariant.serves c.loop.invariant.none_open c.in-Need.ensures.gives

pub returns-in-Ended-clause-pause : goal.returns-in-Ended-clause-pause
returns-in-Ended-clause-pause g c = next_ended g.J.Naming.limit c.next_request.new.self c.in-Ended.cause c.loop.invariant.serves c.loop.invariant.goes_on c.in-Ended.ensures.gives
