use Rattle.cap_serving.proofs.Prelude.{◌-◌, length}
use Rattle.cap_serving.proofs.Together.{CallsSoFar}
use Rattle.cap_serving.proofs.batches.call_rest.Given as goal

-- the calls so far
abbrev pub invariant-loop-next : goal.invariant-loop-next
invariant-loop-next g l = CallsSoFar l.fn.session l.session l.fn.seat l.seat

abbrev pub decreases-loop-next : goal.decreases-loop-next
decreases-loop-next g l = length l.session.fed - length l.session.opens
