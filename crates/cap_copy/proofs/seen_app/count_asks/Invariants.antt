use Rattle.cap_copy.proofs.Prelude.{take, All, AreKept}
use Rattle.cap_copy.proofs.seen_app.count_asks.Given as goal

abbrev pub invariant-loop-seen : goal.invariant-loop-seen
invariant-loop-seen g l = All (λ r. AreKept r.app.asks) (take l.seen-index l.waiting)
