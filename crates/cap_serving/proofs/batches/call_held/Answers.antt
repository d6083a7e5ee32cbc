use Rattle.cap_serving.proofs.Together.{made_more, made_noted, made_same}
use Rattle.cap_serving.proofs.batches.call_held.Goals as goal

pub returns-in-Ok-clause-calls : goal.returns-in-Ok-clause-calls
returns-in-Ok-clause-calls g c = λ opening earlier before. c.call_rest.ensures.calls opening earlier (made_more c.call.new.seat before (rw c.ready-ready.ensures at c.in-Ok.ensures.answer))

pub returns-in-Err-NoMemory-clause-calls : goal.returns-in-Err-NoMemory-clause-calls
returns-in-Err-NoMemory-clause-calls g c = λ opening earlier before.
    let missed = rw c.in-Err-NoMemory.field-0-is at c.in-Err-NoMemory.ensures.answer in
    (c.args.first, made_same c.call.new.seat missed.0 before)

pub returns-in-Err-Sealed-clause-calls : goal.returns-in-Err-Sealed-clause-calls
returns-in-Err-Sealed-clause-calls g c = λ opening earlier before.
    let (entries, full, more) = rw c.ready-ready.ensures at (rw c.in-Err-Sealed.field-0-is at c.in-Err-Sealed.ensures.answer) in
    (entries, full, made_noted c.call.new.seat _ before more)
