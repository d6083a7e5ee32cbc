use Rattle.cap_asks.proofs.Prelude.{refl, arith, held_at}
use Rattle.cap_asks.proofs.Waiters.{taken_out, waiters_rise, without}
use Rattle.cap_asks.proofs.Impossible.{none_among}
use Rattle.cap_asks.proofs.apps.Apps.finish.Goals as goal

pub returns-in_default-clause-table : goal.returns-in_default-clause-table
returns-in_default-clause-table g c = rw (← c.self.view_is) (without c.args.n c.self.inside.next (held_at c.self.inside.apps) (held_at c.self.inside.apps) c.self.inside.index.entries c.remove.new.self.entries c.self.invariant.0.numbered c.remove.ensures.entries c.remove.ensures.updates.1 c.remove.ensures.updates.2 refl).table

pub returns-in_default-clause-accounts : goal.returns-in_default-clause-accounts
returns-in_default-clause-accounts g c = rw (← c.self.view_is) (without c.args.n c.self.inside.next (held_at c.self.inside.apps) (held_at c.self.inside.apps) c.self.inside.index.entries c.remove.new.self.entries c.self.invariant.0.numbered c.remove.ensures.entries c.remove.ensures.updates.1 c.remove.ensures.updates.2 refl).accounts

pub set_waiting-requires-clause-rising : goal.set_waiting-requires-clause-rising
set_waiting-requires-clause-rising g c = waiters_rise c.self.invariant.0

pub invariant_of-self-2 : goal.invariant_of-self-2
invariant_of-self-2 g c =
    let out = (taken_out c.args.n c.in-Some.slot c.self.inside.apps c.try_remove.new.self c.self.inside.index.entries c.remove.new.self.entries c.self.invariant.0 c.remove.ensures.entries c.remove.ensures.updates.1 c.remove.ensures.updates.2 c.in-Some.ensures.value c.try_remove.ensures.updates (omega (arith, c.remove.ensures.len))) in
    (out.1 _ _ c.set_waiting.ensures.items c.set_waiting.ensures.room, λ none. none_among _ _ out.0.impossible (c.self.invariant.1 none))

pub returns-clause-table : goal.returns-clause-table
returns-clause-table g c = rw (← c.self.view_is) (taken_out c.args.n c.in-Some.slot c.self.inside.apps c.try_remove.new.self c.self.inside.index.entries c.remove.new.self.entries c.self.invariant.0 c.remove.ensures.entries c.remove.ensures.updates.1 c.remove.ensures.updates.2 c.in-Some.ensures.value c.try_remove.ensures.updates (omega (arith, c.remove.ensures.len))).0.table

pub returns-clause-accounts : goal.returns-clause-accounts
returns-clause-accounts g c = rw (← c.self.view_is) (taken_out c.args.n c.in-Some.slot c.self.inside.apps c.try_remove.new.self c.self.inside.index.entries c.remove.new.self.entries c.self.invariant.0 c.remove.ensures.entries c.remove.ensures.updates.1 c.remove.ensures.updates.2 c.in-Some.ensures.value c.try_remove.ensures.updates (omega (arith, c.remove.ensures.len))).0.accounts

pub returns-clause-impossible : goal.returns-clause-impossible
returns-clause-impossible g c = rw (← c.self.view_is) (taken_out c.args.n c.in-Some.slot c.self.inside.apps c.try_remove.new.self c.self.inside.index.entries c.remove.new.self.entries c.self.invariant.0 c.remove.ensures.entries c.remove.ensures.updates.1 c.remove.ensures.updates.2 c.in-Some.ensures.value c.try_remove.ensures.updates (omega (arith, c.remove.ensures.len))).0.impossible
