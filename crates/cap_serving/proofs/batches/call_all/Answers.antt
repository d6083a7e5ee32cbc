use Rattle.cap_serving.proofs.Prelude.{ℕ, List, length, ap, arith}
use Rattle.cap_serving.proofs.Together.{made_none, opens_fit}
use Rattle.cap_serving.proofs.batches.call_all.Goals as goal

pub loop-called-init : goal.loop-called-init
loop-called-init g c = made_none c.args.session.now c.args.first c.args.seat.now c.requires

pub returns-in-Ended : goal.returns-in-Ended
returns-in-Ended g c = rw c.in-Ended.is at (c.call_held.ensures.calls c.args.session.now c.args.seat.now c.loop-called.invariant)

pub loop-called-smaller : goal.loop-called-smaller
loop-called-smaller g c =
    let x = rw c.in-Unread.is at c.call_held.ensures.further in
    omega (arith, opens_fit c.call_held.new.session x.session, ap (λ (l : List ℕ). length l) x.fed, x.more)

pub loop-called-preserved : goal.loop-called-preserved
loop-called-preserved g c = rw c.in-Unread.is at (c.call_held.ensures.calls c.args.session.now c.args.seat.now c.loop-called.invariant)
