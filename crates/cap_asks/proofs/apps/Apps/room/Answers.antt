use Rattle.cap_asks.proofs.Prelude.{◌≡◌, true, ap, sym, refl, ◌∙◌, Result, Ok, Err, OnOk, is_some, find, ◌==◌, NoMemory, App, held_at, entries_at, is_waiting}
use Rattle.cap_asks.proofs.Entries.{apps_of, by_number, same_apps, found_after, has_rooms, had_room, none_there}
use Rattle.cap_asks.proofs.Slots.{slot_taken, opened, looked_at}
use Rattle.cap_asks.proofs.Waiters.{changed}
use Rattle.cap_asks.proofs.Impossible.{among_changed, none_among, same_among}
use Rattle.cap_asks.proofs.apps.Apps.room.Goals as goal

pub index_mut-requires : goal.index_mut-requires
index_mut-requires g c = slot_taken c.self.inside.apps c.self.inside.index.entries c.args.n c.self.inside.next c.self.invariant.0.numbered c.in-Some.ensures.value

pub invariant_of-self : goal.invariant_of-self
invariant_of-self g c =
    let es = entries_at (held_at c.self.inside.apps) c.self.inside.index.entries in
    let done = (changed c.args.n (λ app. app) (λ app kept. kept) c.in-Some.field-0.now c.index_mut.result.now c.deref_mut-app.result.now c.reserve.new.self c.self.inside.apps c.self.inside.index.entries c.self.invariant.0 c.in-Some.ensures.value c.index_mut.ensures.value c.deref_mut-app.ensures.value c.reserve.ensures.app (ap (λ (a : App). a.number) c.reserve.ensures.app) c.reserve.ensures.stays refl refl) in
    let among = among_changed c.args.n es _ c.deref_mut-app.result.now c.reserve.new.self (opened c.self.inside.apps c.self.inside.index.entries c.args.n c.in-Some.field-0.now c.index_mut.result.now c.deref_mut-app.result.now c.in-Some.ensures.value c.index_mut.ensures.value c.deref_mut-app.ensures.value) done.entries (same_among c.reserve.ensures.impossible) in
    (done.stays (ap is_waiting c.reserve.ensures.app), λ none. none_among _ _ among (c.self.invariant.1 none))

pub returns-clause-stays : goal.returns-clause-stays
returns-clause-stays g c = rw (← c.self.view_is) (changed c.args.n (λ app. app) (λ app kept. kept) c.in-Some.field-0.now c.index_mut.result.now c.deref_mut-app.result.now c.reserve.new.self c.self.inside.apps c.self.inside.index.entries c.self.invariant.0 c.in-Some.ensures.value c.index_mut.ensures.value c.deref_mut-app.ensures.value c.reserve.ensures.app (ap (λ (a : App). a.number) c.reserve.ensures.app) c.reserve.ensures.stays refl refl).accounts

on_ok : {P Q : Type 0} (r : Result (Unit {0}) NoMemory) → (P → Q) → OnOk r P → OnOk r Q
on_ok (Ok x) f p = f p
on_ok (Err e) f p = tt

pub unreachable-requires : goal.unreachable-requires
unreachable-requires g c =
    let none = none_there c.args.n c.self.inside.next (entries_at (held_at c.self.inside.apps) c.self.inside.index.entries) c.self.invariant.0.numbered (by_number c.args.n _ (looked_at (held_at c.self.inside.apps) c.args.n c.self.inside.index.entries c.in_default.ensures.value)) in
    let there : is_some (find (λ (app : App). app.number == c.args.n) (apps_of (entries_at (held_at c.self.inside.apps) c.self.inside.index.entries))) ≡ true = rw (← c.self.view_is) at c.requires in
    cc (sym none ∙ there)

pub returns-clause-table : goal.returns-clause-table
returns-clause-table g c =
    let es = entries_at (held_at c.self.inside.apps) c.self.inside.index.entries in
    let same = ap apps_of (changed c.args.n (λ app. app) (λ app kept. kept) c.in-Some.field-0.now c.index_mut.result.now c.deref_mut-app.result.now c.reserve.new.self c.self.inside.apps c.self.inside.index.entries c.self.invariant.0 c.in-Some.ensures.value c.index_mut.ensures.value c.deref_mut-app.ensures.value c.reserve.ensures.app (ap (λ (a : App). a.number) c.reserve.ensures.app) c.reserve.ensures.stays refl refl).entries ∙ same_apps c.args.n es c.deref_mut-app.result.now c.reserve.new.self (opened c.self.inside.apps c.self.inside.index.entries c.args.n c.in-Some.field-0.now c.index_mut.result.now c.deref_mut-app.result.now c.in-Some.ensures.value c.index_mut.ensures.value c.deref_mut-app.ensures.value) c.reserve.ensures.app in
    rw (← c.self.view_is) (ap (λ xs. record { active = xs; next = c.self.inside.next }) same)

pub returns-clause-ok : goal.returns-clause-ok
returns-clause-ok g c =
    let es = entries_at (held_at c.self.inside.apps) c.self.inside.index.entries in
    let done = (changed c.args.n (λ app. app) (λ app kept. kept) c.in-Some.field-0.now c.index_mut.result.now c.deref_mut-app.result.now c.reserve.new.self c.self.inside.apps c.self.inside.index.entries c.self.invariant.0 c.in-Some.ensures.value c.index_mut.ensures.value c.deref_mut-app.ensures.value c.reserve.ensures.app (ap (λ (a : App). a.number) c.reserve.ensures.app) c.reserve.ensures.stays refl refl) in
    on_ok c.reserve.result (λ has. rw done.entries (has_rooms c.args.n c.args.asks c.args.grants c.args.ends _ c.reserve.new.self (found_after c.args.n es c.deref_mut-app.result.now c.reserve.new.self (opened c.self.inside.apps c.self.inside.index.entries c.args.n c.in-Some.field-0.now c.index_mut.result.now c.deref_mut-app.result.now c.in-Some.ensures.value c.index_mut.ensures.value c.deref_mut-app.ensures.value)) has)) c.reserve.ensures.ok

pub returns-clause-succeeds : goal.returns-clause-succeeds
returns-clause-succeeds g c = λ has.
    let there = rw (← c.self.view_is) at has in
    c.reserve.ensures.succeeds (had_room c.args.n c.args.asks c.args.grants c.args.ends (entries_at (held_at c.self.inside.apps) c.self.inside.index.entries) c.deref_mut-app.result.now (opened c.self.inside.apps c.self.inside.index.entries c.args.n c.in-Some.field-0.now c.index_mut.result.now c.deref_mut-app.result.now c.in-Some.ensures.value c.index_mut.ensures.value c.deref_mut-app.ensures.value) there)

pub returns-clause-impossible : goal.returns-clause-impossible
returns-clause-impossible g c =
    let es = entries_at (held_at c.self.inside.apps) c.self.inside.index.entries in
    let done = (changed c.args.n (λ app. app) (λ app kept. kept) c.in-Some.field-0.now c.index_mut.result.now c.deref_mut-app.result.now c.reserve.new.self c.self.inside.apps c.self.inside.index.entries c.self.invariant.0 c.in-Some.ensures.value c.index_mut.ensures.value c.deref_mut-app.ensures.value c.reserve.ensures.app (ap (λ (a : App). a.number) c.reserve.ensures.app) c.reserve.ensures.stays refl refl) in
    rw (← c.self.view_is) (among_changed c.args.n es _ c.deref_mut-app.result.now c.reserve.new.self (opened c.self.inside.apps c.self.inside.index.entries c.args.n c.in-Some.field-0.now c.index_mut.result.now c.deref_mut-app.result.now c.in-Some.ensures.value c.index_mut.ensures.value c.deref_mut-app.ensures.value) done.entries (same_among c.reserve.ensures.impossible))
