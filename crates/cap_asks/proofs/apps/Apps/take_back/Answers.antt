use Rattle.cap_asks.proofs.Waiters.{taken_back, waiters_rise}
use Rattle.cap_asks.proofs.Impossible.{none_among}
use Rattle.cap_asks.proofs.apps.Apps.take_back.Goals as goal

pub set_waiting-requires-clause-rising : goal.set_waiting-requires-clause-rising
set_waiting-requires-clause-rising g c = waiters_rise c.self.invariant.0

pub invariant_of-self-2 : goal.invariant_of-self-2
invariant_of-self-2 g c =
    let back = (taken_back (c.in-Some.number, c.in-Some.slot) c.self.inside.apps c.try_remove.new.self c.self.inside.index.entries c.pop_last.new.self.entries c.self.invariant.0 c.in-Some.ensures.removal c.in-Some.ensures.value c.try_remove.ensures.updates) in
    (back.whole c.set_waiting.ensures.items c.set_waiting.ensures.room, λ none. none_among _ _ back.impossible (c.self.invariant.1 none))

pub returns-clause-table : goal.returns-clause-table
returns-clause-table g c = λ leaf user table e. (taken_back (c.in-Some.number, c.in-Some.slot) c.self.inside.apps c.try_remove.new.self c.self.inside.index.entries c.pop_last.new.self.entries c.self.invariant.0 c.in-Some.ensures.removal c.in-Some.ensures.value c.try_remove.ensures.updates).table leaf user table (rw (← c.self.view_is) at e)

pub returns-clause-accounts : goal.returns-clause-accounts
returns-clause-accounts g c = λ number account accounts e. (taken_back (c.in-Some.number, c.in-Some.slot) c.self.inside.apps c.try_remove.new.self c.self.inside.index.entries c.pop_last.new.self.entries c.self.invariant.0 c.in-Some.ensures.removal c.in-Some.ensures.value c.try_remove.ensures.updates).accounts number account accounts (rw (← c.self.view_is) at e)

pub returns-clause-impossible : goal.returns-clause-impossible
returns-clause-impossible g c = rw (← c.self.view_is) (taken_back (c.in-Some.number, c.in-Some.slot) c.self.inside.apps c.try_remove.new.self c.self.inside.index.entries c.pop_last.new.self.entries c.self.invariant.0 c.in-Some.ensures.removal c.in-Some.ensures.value c.try_remove.ensures.updates).impossible
