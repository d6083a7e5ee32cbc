use Rattle.std.proofs.Common.{subst, List}
use Rattle.cap_shared.specs.WordRule.{AllFit}
use Rattle.cap_shared.specs.declared.history.Sitting.{Sitting}
use Rattle.cap_shared.proofs.Following.{follows_begins}
use Rattle.worker_tests.proofs.refused.close_and_compare.Goals as goal

-- the seat of the replica is the second of two, and fits the journal
pub close-own-requires-clause-begins : goal.close-own-requires-clause-begins
close-own-requires-clause-begins g c =
    let journal = c.close-closed.result.journal.items in
    let fit = subst (λ (seats : List Sitting). AllFit journal seats) c.in-Ok.ensures.items c.close-closed.ensures.fit in
    follows_begins journal c.into_parts-seat.result.1.log c.into_parts-seat.result.0.past c.into_parts-seat.ensures.follows fit.1.0.notes
