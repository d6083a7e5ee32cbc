use Rattle.cap_asks.proofs.Prelude.{arith, sym, ◌∙◌, held_at, entries_at}
use Rattle.std.specs.Cmp.{booleans_Decides}
use Rattle.cap_asks.specs.Changes.{changed_by}
use Rattle.cap_asks.proofs.Changing.{may_change, none_takes}
use Rattle.cap_asks.proofs.Entries.{by_number}
use Rattle.cap_asks.proofs.KeptAsks.{keeps_asks}
use Rattle.cap_asks.proofs.Slots.{slot_taken, opened, looked_at}
use Rattle.cap_asks.proofs.Waiters.{changed, unchanged, waiters_rise}
use Rattle.cap_asks.proofs.Impossible.{marks_changed, marks_stay, neither, none_marks}
use Rattle.cap_asks.proofs.apps.Apps.change.Goals as goal

pub returns-in_default-clause-table : goal.returns-in_default-clause-table
returns-in_default-clause-table g c = rw (← c.self.view_is) (unchanged c.args.n (changed_by c.args.change) (held_at c.self.inside.apps) c.self.inside.index.entries c.self.inside.next c.self.invariant.0.numbered c.in_default.ensures.value)

pub returns-in_default-clause-accounts : goal.returns-in_default-clause-accounts
returns-in_default-clause-accounts g c = rw (← c.self.view_is) (none_takes c.args.change c.args.n (entries_at (held_at c.self.inside.apps) c.self.inside.index.entries) (by_number c.args.n _ (looked_at (held_at c.self.inside.apps) c.args.n c.self.inside.index.entries c.in_default.ensures.value)) (rw (← c.self.view_is) at c.requires))

pub index_mut-requires : goal.index_mut-requires
index_mut-requires g c = slot_taken c.self.inside.apps c.self.inside.index.entries c.args.n c.self.inside.next c.self.invariant.0.numbered c.in-Some.ensures.value

pub change-requires : goal.change-requires
change-requires g c = (omega arith, (omega arith, may_change c.args.change c.args.n (entries_at (held_at c.self.inside.apps) c.self.inside.index.entries) c.deref_mut-app.result.now (opened c.self.inside.apps c.self.inside.index.entries c.args.n c.in-Some.field-0.now c.index_mut.result.now c.deref_mut-app.result.now c.in-Some.ensures.value c.index_mut.ensures.value c.deref_mut-app.ensures.value) (rw (← c.self.view_is) at c.requires)))

pub set_waiting-requires-clause-rising : goal.set_waiting-requires-clause-rising
set_waiting-requires-clause-rising g c = waiters_rise c.self.invariant.0

pub set_waiting-requires-clause-room : goal.set_waiting-requires-clause-room
set_waiting-requires-clause-room g c = (changed c.args.n (changed_by c.args.change) (keeps_asks c.args.change) c.in-Some.field-0.now c.index_mut.result.now c.deref_mut-app.result.now c.change.new.self c.self.inside.apps c.self.inside.index.entries c.self.invariant.0 c.in-Some.ensures.value c.index_mut.ensures.value c.deref_mut-app.ensures.value c.change.ensures.app c.change.ensures.number c.change.ensures.account c.is_waiting-waited.ensures c.is_waiting-waits.ensures).fits c.if-waits-waited.false

pub invariant_of-self-2 : goal.invariant_of-self-2
invariant_of-self-2 g c =
    let es = entries_at (held_at c.self.inside.apps) c.self.inside.index.entries in
    let done = (changed c.args.n (changed_by c.args.change) (keeps_asks c.args.change) c.in-Some.field-0.now c.index_mut.result.now c.deref_mut-app.result.now c.change.new.self c.self.inside.apps c.self.inside.index.entries c.self.invariant.0 c.in-Some.ensures.value c.index_mut.ensures.value c.deref_mut-app.ensures.value c.change.ensures.app c.change.ensures.number c.change.ensures.account c.is_waiting-waited.ensures c.is_waiting-waits.ensures) in
    let marks = marks_changed c.args.change c.args.n es _ c.deref_mut-app.result.now c.change.new.self (opened c.self.inside.apps c.self.inside.index.entries c.args.n c.in-Some.field-0.now c.index_mut.result.now c.deref_mut-app.result.now c.in-Some.ensures.value c.index_mut.ensures.value c.deref_mut-app.ensures.value) done.entries c.change.ensures.impossible in
    (done.put c.if-waits-waited.false c.set_waiting.ensures.items c.set_waiting.ensures.room, λ none. let n = neither _ _ none in none_marks c.args.change _ _ marks (sym c.is_impossible.ensures ∙ n.1) (c.self.invariant.1 n.0))

pub invariant_of-self : goal.invariant_of-self
invariant_of-self g c = (c.self.invariant.0, λ none. c.self.invariant.1 (neither _ _ none).0)

pub invariant_of-self-then-waits-waited : goal.invariant_of-self-then-waits-waited
invariant_of-self-then-waits-waited g c =
    let es = entries_at (held_at c.self.inside.apps) c.self.inside.index.entries in
    let done = (changed c.args.n (changed_by c.args.change) (keeps_asks c.args.change) c.in-Some.field-0.now c.index_mut.result.now c.deref_mut-app.result.now c.change.new.self c.self.inside.apps c.self.inside.index.entries c.self.invariant.0 c.in-Some.ensures.value c.index_mut.ensures.value c.deref_mut-app.ensures.value c.change.ensures.app c.change.ensures.number c.change.ensures.account c.is_waiting-waited.ensures c.is_waiting-waits.ensures) in
    let marks = marks_changed c.args.change c.args.n es _ c.deref_mut-app.result.now c.change.new.self (opened c.self.inside.apps c.self.inside.index.entries c.args.n c.in-Some.field-0.now c.index_mut.result.now c.deref_mut-app.result.now c.in-Some.ensures.value c.index_mut.ensures.value c.deref_mut-app.ensures.value) done.entries c.change.ensures.impossible in
    (done.stays ((booleans_Decides c.is_waiting-waits.result c.is_waiting-waited.result).0 c.if-waits-waited.true), λ none. let n = neither _ _ none in none_marks c.args.change _ _ marks (sym c.is_impossible.ensures ∙ n.1) (c.self.invariant.1 n.0))

pub returns-then-waits-waited-clause-table : goal.returns-then-waits-waited-clause-table
returns-then-waits-waited-clause-table g c = rw (← c.self.view_is) (changed c.args.n (changed_by c.args.change) (keeps_asks c.args.change) c.in-Some.field-0.now c.index_mut.result.now c.deref_mut-app.result.now c.change.new.self c.self.inside.apps c.self.inside.index.entries c.self.invariant.0 c.in-Some.ensures.value c.index_mut.ensures.value c.deref_mut-app.ensures.value c.change.ensures.app c.change.ensures.number c.change.ensures.account c.is_waiting-waited.ensures c.is_waiting-waits.ensures).table

pub returns-then-waits-waited-clause-accounts : goal.returns-then-waits-waited-clause-accounts
returns-then-waits-waited-clause-accounts g c = rw (← c.self.view_is) (changed c.args.n (changed_by c.args.change) (keeps_asks c.args.change) c.in-Some.field-0.now c.index_mut.result.now c.deref_mut-app.result.now c.change.new.self c.self.inside.apps c.self.inside.index.entries c.self.invariant.0 c.in-Some.ensures.value c.index_mut.ensures.value c.deref_mut-app.ensures.value c.change.ensures.app c.change.ensures.number c.change.ensures.account c.is_waiting-waited.ensures c.is_waiting-waits.ensures).accounts

pub returns-clause-table : goal.returns-clause-table
returns-clause-table g c = rw (← c.self.view_is) (changed c.args.n (changed_by c.args.change) (keeps_asks c.args.change) c.in-Some.field-0.now c.index_mut.result.now c.deref_mut-app.result.now c.change.new.self c.self.inside.apps c.self.inside.index.entries c.self.invariant.0 c.in-Some.ensures.value c.index_mut.ensures.value c.deref_mut-app.ensures.value c.change.ensures.app c.change.ensures.number c.change.ensures.account c.is_waiting-waited.ensures c.is_waiting-waits.ensures).table

pub returns-clause-accounts : goal.returns-clause-accounts
returns-clause-accounts g c = rw (← c.self.view_is) (changed c.args.n (changed_by c.args.change) (keeps_asks c.args.change) c.in-Some.field-0.now c.index_mut.result.now c.deref_mut-app.result.now c.change.new.self c.self.inside.apps c.self.inside.index.entries c.self.invariant.0 c.in-Some.ensures.value c.index_mut.ensures.value c.deref_mut-app.ensures.value c.change.ensures.app c.change.ensures.number c.change.ensures.account c.is_waiting-waited.ensures c.is_waiting-waits.ensures).accounts

pub returns-in_default-clause-impossible : goal.returns-in_default-clause-impossible
returns-in_default-clause-impossible g c = rw (← c.self.view_is) (marks_stay c.args.change _)

pub returns-then-waits-waited-clause-impossible : goal.returns-then-waits-waited-clause-impossible
returns-then-waits-waited-clause-impossible g c =
    let es = entries_at (held_at c.self.inside.apps) c.self.inside.index.entries in
    let done = (changed c.args.n (changed_by c.args.change) (keeps_asks c.args.change) c.in-Some.field-0.now c.index_mut.result.now c.deref_mut-app.result.now c.change.new.self c.self.inside.apps c.self.inside.index.entries c.self.invariant.0 c.in-Some.ensures.value c.index_mut.ensures.value c.deref_mut-app.ensures.value c.change.ensures.app c.change.ensures.number c.change.ensures.account c.is_waiting-waited.ensures c.is_waiting-waits.ensures) in
    rw (← c.self.view_is) (marks_changed c.args.change c.args.n es _ c.deref_mut-app.result.now c.change.new.self (opened c.self.inside.apps c.self.inside.index.entries c.args.n c.in-Some.field-0.now c.index_mut.result.now c.deref_mut-app.result.now c.in-Some.ensures.value c.index_mut.ensures.value c.deref_mut-app.ensures.value) done.entries c.change.ensures.impossible)

pub returns-clause-impossible : goal.returns-clause-impossible
returns-clause-impossible g c =
    let es = entries_at (held_at c.self.inside.apps) c.self.inside.index.entries in
    let done = (changed c.args.n (changed_by c.args.change) (keeps_asks c.args.change) c.in-Some.field-0.now c.index_mut.result.now c.deref_mut-app.result.now c.change.new.self c.self.inside.apps c.self.inside.index.entries c.self.invariant.0 c.in-Some.ensures.value c.index_mut.ensures.value c.deref_mut-app.ensures.value c.change.ensures.app c.change.ensures.number c.change.ensures.account c.is_waiting-waited.ensures c.is_waiting-waits.ensures) in
    rw (← c.self.view_is) (marks_changed c.args.change c.args.n es _ c.deref_mut-app.result.now c.change.new.self (opened c.self.inside.apps c.self.inside.index.entries c.args.n c.in-Some.field-0.now c.index_mut.result.now c.deref_mut-app.result.now c.in-Some.ensures.value c.index_mut.ensures.value c.deref_mut-app.ensures.value) done.entries c.change.ensures.impossible)
