use Rattle.cap_serving.proofs.Prelude.{◌∷◌, ◌-◌, [], length, CallsMade}
use Rattle.cap_serving.proofs.batches.call_all.Given as goal

-- the calls so far
abbrev pub invariant-loop-called : goal.invariant-loop-called
invariant-loop-called g l = CallsMade l.fn.session l.session (l.request ∷ []) l.fn.seat l.seat []

abbrev pub decreases-loop-called : goal.decreases-loop-called
decreases-loop-called g l = length l.session.fed - length l.session.opens
