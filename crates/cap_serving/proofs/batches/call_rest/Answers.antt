use Rattle.cap_serving.proofs.Prelude.{arith}
use Rattle.cap_serving.proofs.Together.{made_noted, made_open, made_same, none_so_far, one_more, opens_fit, opens_more}
use Rattle.cap_serving.proofs.batches.call_rest.Goals as goal

pub loop-next-init : goal.loop-next-init
loop-next-init g c = none_so_far c.args.session.now c.args.seat.now

pub returns-in-Err-NoMemory-clause-calls : goal.returns-in-Err-NoMemory-clause-calls
returns-in-Err-NoMemory-clause-calls g c = λ opening earlier before.
    let missed = rw c.in-Err-NoMemory.field-0-is at c.in-Err-NoMemory.ensures.answer in
    (c.in-Some.next, made_same c.call.new.seat missed.0 (made_open c.next_ahead.new.self c.in-Some.next (c.loop-next.invariant.calls opening earlier before) c.in-Some.ensures.opens))

pub returns-in-Err-Sealed-clause-calls : goal.returns-in-Err-Sealed-clause-calls
returns-in-Err-Sealed-clause-calls g c = λ opening earlier before.
    let (entries, full, more) = rw c.in-Some-at_once.ensures.same at (rw c.in-Err-Sealed.field-0-is at c.in-Err-Sealed.ensures.answer) in
    (entries, full, made_noted c.call.new.seat _ (made_open c.next_ahead.new.self c.in-Some.next (c.loop-next.invariant.calls opening earlier before) c.in-Some.ensures.opens) more)

pub loop-next-smaller-in-Ok : goal.loop-next-smaller-in-Ok
loop-next-smaller-in-Ok g c =
    let x = opens_more c.loop-next.session c.next_ahead.new.self c.in-Some.next c.in-Some.ensures.opens in
    omega (arith, opens_fit c.next_ahead.new.self c.in-Some.ensures.session, x.0, x.1)

pub loop-next-preserved-in-Ok : goal.loop-next-preserved-in-Ok
loop-next-preserved-in-Ok g c = one_more c.next_ahead.new.self c.in-Some.next c.call.new.seat c.loop-next.invariant c.in-Some.ensures.opens (rw c.in-Some-at_once.ensures.same at c.in-Ok.ensures.answer)

pub loop-next-smaller-in-Ok-2 : goal.loop-next-smaller-in-Ok-2
loop-next-smaller-in-Ok-2 g c =
    let x = opens_more c.loop-next.session c.next_ahead.new.self c.in-Some.next c.in-Some.ensures.opens in
    omega (arith, opens_fit c.next_ahead.new.self c.in-Some.ensures.session, x.0, x.1)

pub loop-next-preserved-in-Ok-2 : goal.loop-next-preserved-in-Ok-2
loop-next-preserved-in-Ok-2 g c = one_more c.next_ahead.new.self c.in-Some.next c.call.new.seat c.loop-next.invariant c.in-Some.ensures.opens (rw c.in-Some-at_once.ensures.same at c.in-Ok.ensures.answer)

pub loop-next-smaller-in-Ok-3 : goal.loop-next-smaller-in-Ok-3
loop-next-smaller-in-Ok-3 g c =
    let x = opens_more c.loop-next.session c.next_ahead.new.self c.in-Some.next c.in-Some.ensures.opens in
    omega (arith, opens_fit c.next_ahead.new.self c.in-Some.ensures.session, x.0, x.1)

pub loop-next-preserved-in-Ok-3 : goal.loop-next-preserved-in-Ok-3
loop-next-preserved-in-Ok-3 g c = one_more c.next_ahead.new.self c.in-Some.next c.call.new.seat c.loop-next.invariant c.in-Some.ensures.opens (rw c.in-Some-at_once.ensures.same at c.in-Ok.ensures.answer)

pub loop-next-smaller-in-Ok-4 : goal.loop-next-smaller-in-Ok-4
loop-next-smaller-in-Ok-4 g c =
    let x = opens_more c.loop-next.session c.next_ahead.new.self c.in-Some.next c.in-Some.ensures.opens in
    omega (arith, opens_fit c.next_ahead.new.self c.in-Some.ensures.session, x.0, x.1)

pub loop-next-preserved-in-Ok-4 : goal.loop-next-preserved-in-Ok-4
loop-next-preserved-in-Ok-4 g c = one_more c.next_ahead.new.self c.in-Some.next c.call.new.seat c.loop-next.invariant c.in-Some.ensures.opens (rw c.in-Some-at_once.ensures.same at c.in-Ok.ensures.answer)

pub loop-next-smaller : goal.loop-next-smaller
loop-next-smaller g c =
    let x = opens_more c.loop-next.session c.next_ahead.new.self c.in-Some.next c.in-Some.ensures.opens in
    omega (arith, opens_fit c.next_ahead.new.self c.in-Some.ensures.session, x.0, x.1)

pub loop-next-preserved : goal.loop-next-preserved
loop-next-preserved g c = one_more c.next_ahead.new.self c.in-Some.next c.call.new.seat c.loop-next.invariant c.in-Some.ensures.opens (rw c.in-Some-at_once.ensures.same at c.in-Ok.ensures.answer)
