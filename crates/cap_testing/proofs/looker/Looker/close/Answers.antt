use Rattle.std.proofs.Common.{◌∷◌, ◌++◌, [], List, subst}
use Rattle.cap_shared.specs.WordRule.{AllFit, Fits}
use Rattle.cap_shared.specs.declared.entry.Entry.{Entry}
use Rattle.cap_shared.specs.declared.history.Sitting.{Sitting}
use Rattle.cap_shared.proofs.Following.{follows_begins}
use Rattle.cap_testing.proofs.looker.Looker.close.Goals as goal

-- the last of seats that all fit
last_fits : (journal : List Entry) (seats : List Sitting) (s : Sitting) → AllFit journal (seats ++ s ∷ []) → Fits journal s
last_fits journal [] s fit = fit.0
last_fits journal (x ∷ xs) s fit = last_fits journal xs s fit.1

pub close-requires-clause-begins : goal.close-requires-clause-begins
close-requires-clause-begins g c =
    let journal = c.close-closed.result.journal.items in
    let seat = c.self.inside.seat in
    let fit = subst (λ (seats : List Sitting). AllFit journal seats) c.in-Ok.ensures.items c.close-closed.ensures.fit in
    follows_begins journal c.self.inside.replica.log seat.past c.self.invariant (last_fits journal c.args.others.items seat fit).notes
