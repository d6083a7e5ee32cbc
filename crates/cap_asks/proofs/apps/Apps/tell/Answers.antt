use Rattle.cap_asks.proofs.Prelude.{ap, refl, nat_eq, set_value, App, after_telling, held_at, entries_at, is_waiting}
use Rattle.cap_asks.proofs.Entries.{by_number, still_numbered, found_after, kept_now, missing_app}
use Rattle.cap_asks.proofs.Slots.{slot_taken, opened, looked_at}
use Rattle.cap_asks.proofs.Waiters.{changed, unchanged}
use Rattle.cap_asks.proofs.Impossible.{among_changed, none_among, same_among}
use Rattle.cap_asks.proofs.apps.Apps.tell.Goals as goal

pub returns-in_default-clause-table : goal.returns-in_default-clause-table
returns-in_default-clause-table g c = rw (← c.self.view_is) (unchanged c.args.n (λ app. after_telling app.response c.args.ignored app) (held_at c.self.inside.apps) c.self.inside.index.entries c.self.inside.next c.self.invariant.0.numbered c.in_default.ensures.value)

pub index_mut-requires : goal.index_mut-requires
index_mut-requires g c = slot_taken c.self.inside.apps c.self.inside.index.entries c.args.n c.self.inside.next c.self.invariant.0.numbered c.in-Some.ensures.value

pub invariant_of-self : goal.invariant_of-self
invariant_of-self g c =
    let es = entries_at (held_at c.self.inside.apps) c.self.inside.index.entries in
    let done = (changed c.args.n (λ app. after_telling app.response c.args.ignored app) (λ app kept. kept) c.in-Some.field-0.now c.index_mut.result.now c.deref_mut-app.result.now c.tell.new.self c.self.inside.apps c.self.inside.index.entries c.self.invariant.0 c.in-Some.ensures.value c.index_mut.ensures.value c.deref_mut-app.ensures.value c.tell.ensures.app (ap (λ (a : App). a.number) c.tell.ensures.app) c.tell.ensures.account refl refl) in
    let among = among_changed c.args.n es _ c.deref_mut-app.result.now c.tell.new.self (opened c.self.inside.apps c.self.inside.index.entries c.args.n c.in-Some.field-0.now c.index_mut.result.now c.deref_mut-app.result.now c.in-Some.ensures.value c.index_mut.ensures.value c.deref_mut-app.ensures.value) done.entries (same_among c.tell.ensures.impossible) in
    (done.stays (ap is_waiting c.tell.ensures.app), λ none. none_among _ _ among (c.self.invariant.1 none))

pub returns-clause-table : goal.returns-clause-table
returns-clause-table g c = rw (← c.self.view_is) (changed c.args.n (λ app. after_telling app.response c.args.ignored app) (λ app kept. kept) c.in-Some.field-0.now c.index_mut.result.now c.deref_mut-app.result.now c.tell.new.self c.self.inside.apps c.self.inside.index.entries c.self.invariant.0 c.in-Some.ensures.value c.index_mut.ensures.value c.deref_mut-app.ensures.value c.tell.ensures.app (ap (λ (a : App). a.number) c.tell.ensures.app) c.tell.ensures.account refl refl).table

pub returns-clause-accounts : goal.returns-clause-accounts
returns-clause-accounts g c = rw (← c.self.view_is) (changed c.args.n (λ app. after_telling app.response c.args.ignored app) (λ app kept. kept) c.in-Some.field-0.now c.index_mut.result.now c.deref_mut-app.result.now c.tell.new.self c.self.inside.apps c.self.inside.index.entries c.self.invariant.0 c.in-Some.ensures.value c.index_mut.ensures.value c.deref_mut-app.ensures.value c.tell.ensures.app (ap (λ (a : App). a.number) c.tell.ensures.app) c.tell.ensures.account refl refl).accounts

pub returns-in_default-clause-told : goal.returns-in_default-clause-told
returns-in_default-clause-told g c = λ there. missing_app 1 c.args.n c.self.inside.next (entries_at (held_at c.self.inside.apps) c.self.inside.index.entries) c.self.invariant.0.numbered (by_number c.args.n _ (looked_at (held_at c.self.inside.apps) c.args.n c.self.inside.index.entries c.in_default.ensures.value)) (rw (← c.self.view_is) at there)

pub returns-clause-told : goal.returns-clause-told
returns-clause-told g c =
    let es = entries_at (held_at c.self.inside.apps) c.self.inside.index.entries in
    let found = (opened c.self.inside.apps c.self.inside.index.entries c.args.n c.in-Some.field-0.now c.index_mut.result.now c.deref_mut-app.result.now c.in-Some.ensures.value c.index_mut.ensures.value c.deref_mut-app.ensures.value) in
    let numbered = still_numbered 1 c.args.n c.self.inside.next es c.deref_mut-app.result.now c.tell.new.self c.self.invariant.0.numbered found (ap (λ (a : App). a.number) c.tell.ensures.app) in
    let done = (changed c.args.n (λ app. after_telling app.response c.args.ignored app) (λ app kept. kept) c.in-Some.field-0.now c.index_mut.result.now c.deref_mut-app.result.now c.tell.new.self c.self.inside.apps c.self.inside.index.entries c.self.invariant.0 c.in-Some.ensures.value c.index_mut.ensures.value c.deref_mut-app.ensures.value c.tell.ensures.app (ap (λ (a : App). a.number) c.tell.ensures.app) c.tell.ensures.account refl refl) in
    λ there. rw done.entries (kept_now 1 c.args.n c.self.inside.next (set_value (nat_eq c.args.n) es c.tell.new.self) c.tell.new.self c.tell.result numbered (found_after c.args.n es c.deref_mut-app.result.now c.tell.new.self found) c.tell.ensures.told)

pub returns-clause-impossible : goal.returns-clause-impossible
returns-clause-impossible g c =
    let es = entries_at (held_at c.self.inside.apps) c.self.inside.index.entries in
    let done = (changed c.args.n (λ app. after_telling app.response c.args.ignored app) (λ app kept. kept) c.in-Some.field-0.now c.index_mut.result.now c.deref_mut-app.result.now c.tell.new.self c.self.inside.apps c.self.inside.index.entries c.self.invariant.0 c.in-Some.ensures.value c.index_mut.ensures.value c.deref_mut-app.ensures.value c.tell.ensures.app (ap (λ (a : App). a.number) c.tell.ensures.app) c.tell.ensures.account refl refl) in
    rw (← c.self.view_is) (among_changed c.args.n es _ c.deref_mut-app.result.now c.tell.new.self (opened c.self.inside.apps c.self.inside.index.entries c.args.n c.in-Some.field-0.now c.index_mut.result.now c.deref_mut-app.result.now c.in-Some.ensures.value c.index_mut.ensures.value c.deref_mut-app.ensures.value) done.entries (same_among c.tell.ensures.impossible))
