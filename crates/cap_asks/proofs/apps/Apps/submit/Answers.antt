use Rattle.cap_asks.proofs.Prelude.{◌+◌, ◌∷◌, [], ◌++◌, ap, sym, ◌∙◌, arith, nat_cmp, insert_entry, App, is_waiting, entries_at, held_at}
use Rattle.cap_asks.proofs.Entries.{apps_of, accounts_of, next_absent, apps_push, account_entered}
use Rattle.cap_asks.proofs.Waiters.{few_waiters, grown, entered}
use Rattle.cap_asks.specs.Apps.{impossible_in}
use Rattle.cap_asks.proofs.Impossible.{among_more, none_among, same_among, same_through}
use Rattle.cap_asks.proofs.apps.Apps.submit.Goals as goal

pub overflow_sub-more : goal.overflow_sub-more
overflow_sub-more g c = let few = few_waiters c.self.invariant.0 in omega (arith, few, c.len.ensures.len, c.len-2.ensures)

pub invariant_of-self-in_default-new : goal.invariant_of-self-in_default-new
invariant_of-self-in_default-new g c = ((grown c.self.invariant.0 (ap held_at c.reserve-2.ensures.rest_kept) c.reserve.ensures.items c.reserve.ensures.capacity), λ none. ap (λ held. impossible_in (entries_at held c.self.inside.index.entries)) (ap held_at c.reserve-2.ensures.rest_kept) ∙ c.self.invariant.1 none)

pub invariant_of-self-in_default-insert : goal.invariant_of-self-in_default-insert
invariant_of-self-in_default-insert g c = rw c.in_default-insert.ensures.err ((grown c.self.invariant.0 (ap held_at c.reserve-2.ensures.rest_kept) c.reserve.ensures.items c.reserve.ensures.capacity), λ none. ap (λ held. impossible_in (entries_at held c.self.inside.index.entries)) (ap held_at c.reserve-2.ensures.rest_kept) ∙ c.self.invariant.1 none)

pub returns-in_default-new-clause-table_stays : goal.returns-in_default-new-clause-table_stays
returns-in_default-new-clause-table_stays g c =
    rw (← c.self.view_is) (ap (λ held. record { active = apps_of (entries_at held c.self.inside.index.entries); next = c.self.inside.next }) (ap held_at c.reserve-2.ensures.rest_kept))

pub returns-in_default-new-clause-accounts_stay : goal.returns-in_default-new-clause-accounts_stay
returns-in_default-new-clause-accounts_stay g c = rw (← c.self.view_is) (ap (λ held. accounts_of (entries_at held c.self.inside.index.entries)) (ap held_at c.reserve-2.ensures.rest_kept))

pub invariant_of-self-2 : goal.invariant_of-self-2
invariant_of-self-2 g c =
    let few = few_waiters c.self.invariant.0 in
    let entries = (entered c.insert_reserved.result c.in-Ok-new.app c.new-app.result c.reserve-2.new.self c.insert_reserved.new.self c.self.inside.index.entries c.insert.new.self.entries (grown c.self.invariant.0 (ap held_at c.reserve-2.ensures.rest_kept) c.reserve.ensures.items c.reserve.ensures.capacity) (c.in-Ok-insert.ensures.entries ∙ ap (insert_entry nat_cmp c.self.inside.index.entries c.self.inside.next) (c.vacant_key.ensures.value ∙ sym c.insert_reserved.ensures.key)) c.insert_reserved.ensures.updates c.insert_reserved.ensures.was_vacant c.in-Ok-new.ensures.ok (ap (λ (a : App). a.number) c.new-app.ensures.app) (rw c.new-app.ensures.app tt) (ap is_waiting c.new-app.ensures.app)).entries ∙ ap (λ held. entries_at held c.self.inside.index.entries ++ (c.self.inside.next, c.new-app.result) ∷ []) (ap held_at c.reserve-2.ensures.rest_kept) in
    let among = same_through _ _ _ (ap impossible_in entries) (among_more (entries_at (held_at c.self.inside.apps) c.self.inside.index.entries) c.self.inside.next c.new-app.result c.new-app.ensures.impossible) in
    ((entered c.insert_reserved.result c.in-Ok-new.app c.new-app.result c.reserve-2.new.self c.insert_reserved.new.self c.self.inside.index.entries c.insert.new.self.entries (grown c.self.invariant.0 (ap held_at c.reserve-2.ensures.rest_kept) c.reserve.ensures.items c.reserve.ensures.capacity) (c.in-Ok-insert.ensures.entries ∙ ap (insert_entry nat_cmp c.self.inside.index.entries c.self.inside.next) (c.vacant_key.ensures.value ∙ sym c.insert_reserved.ensures.key)) c.insert_reserved.ensures.updates c.insert_reserved.ensures.was_vacant c.in-Ok-new.ensures.ok (ap (λ (a : App). a.number) c.new-app.ensures.app) (rw c.new-app.ensures.app tt) (ap is_waiting c.new-app.ensures.app)).whole (omega (arith, few, c.len.ensures.len, c.len-2.ensures, c.in-Ok.ensures.ok)), λ none. none_among _ _ among (c.self.invariant.1 none))

pub returns-clause-table : goal.returns-clause-table
returns-clause-table g c =
    let entries = (entered c.insert_reserved.result c.in-Ok-new.app c.new-app.result c.reserve-2.new.self c.insert_reserved.new.self c.self.inside.index.entries c.insert.new.self.entries (grown c.self.invariant.0 (ap held_at c.reserve-2.ensures.rest_kept) c.reserve.ensures.items c.reserve.ensures.capacity) (c.in-Ok-insert.ensures.entries ∙ ap (insert_entry nat_cmp c.self.inside.index.entries c.self.inside.next) (c.vacant_key.ensures.value ∙ sym c.insert_reserved.ensures.key)) c.insert_reserved.ensures.updates c.insert_reserved.ensures.was_vacant c.in-Ok-new.ensures.ok (ap (λ (a : App). a.number) c.new-app.ensures.app) (rw c.new-app.ensures.app tt) (ap is_waiting c.new-app.ensures.app)).entries ∙ ap (λ held. entries_at held c.self.inside.index.entries ++ (c.self.inside.next, c.new-app.result) ∷ []) (ap held_at c.reserve-2.ensures.rest_kept) in
    let apps = ap apps_of entries ∙ apps_push (entries_at (held_at c.self.inside.apps) c.self.inside.index.entries) c.self.inside.next c.new-app.result ∙ ap (λ (a : App). apps_of (entries_at (held_at c.self.inside.apps) c.self.inside.index.entries) ++ a ∷ []) c.new-app.ensures.app in
    rw (← c.self.view_is) (ap (λ xs. record { active = xs; next = c.self.inside.next + 1 }) apps)

pub returns-clause-accounts : goal.returns-clause-accounts
returns-clause-accounts g c =
    let absent = next_absent 1 c.self.inside.next (entries_at (held_at c.self.inside.apps) c.self.inside.index.entries) c.self.invariant.0.numbered in
    let entries = (entered c.insert_reserved.result c.in-Ok-new.app c.new-app.result c.reserve-2.new.self c.insert_reserved.new.self c.self.inside.index.entries c.insert.new.self.entries (grown c.self.invariant.0 (ap held_at c.reserve-2.ensures.rest_kept) c.reserve.ensures.items c.reserve.ensures.capacity) (c.in-Ok-insert.ensures.entries ∙ ap (insert_entry nat_cmp c.self.inside.index.entries c.self.inside.next) (c.vacant_key.ensures.value ∙ sym c.insert_reserved.ensures.key)) c.insert_reserved.ensures.updates c.insert_reserved.ensures.was_vacant c.in-Ok-new.ensures.ok (ap (λ (a : App). a.number) c.new-app.ensures.app) (rw c.new-app.ensures.app tt) (ap is_waiting c.new-app.ensures.app)).entries ∙ ap (λ held. entries_at held c.self.inside.index.entries ++ (c.self.inside.next, c.new-app.result) ∷ []) (ap held_at c.reserve-2.ensures.rest_kept) in
    rw (← c.self.view_is) (account_entered c.self.inside.next c.args.position.items (entries_at (held_at c.self.inside.apps) c.self.inside.index.entries) _ c.new-app.result absent entries c.new-app.ensures.account)

pub returns-in_default-new-clause-impossible : goal.returns-in_default-new-clause-impossible
returns-in_default-new-clause-impossible g c = rw (← c.self.view_is) (same_among (ap (λ held. impossible_in (entries_at held c.self.inside.index.entries)) (ap held_at c.reserve-2.ensures.rest_kept)))

pub returns-clause-impossible : goal.returns-clause-impossible
returns-clause-impossible g c =
    let entries = (entered c.insert_reserved.result c.in-Ok-new.app c.new-app.result c.reserve-2.new.self c.insert_reserved.new.self c.self.inside.index.entries c.insert.new.self.entries (grown c.self.invariant.0 (ap held_at c.reserve-2.ensures.rest_kept) c.reserve.ensures.items c.reserve.ensures.capacity) (c.in-Ok-insert.ensures.entries ∙ ap (insert_entry nat_cmp c.self.inside.index.entries c.self.inside.next) (c.vacant_key.ensures.value ∙ sym c.insert_reserved.ensures.key)) c.insert_reserved.ensures.updates c.insert_reserved.ensures.was_vacant c.in-Ok-new.ensures.ok (ap (λ (a : App). a.number) c.new-app.ensures.app) (rw c.new-app.ensures.app tt) (ap is_waiting c.new-app.ensures.app)).entries ∙ ap (λ held. entries_at held c.self.inside.index.entries ++ (c.self.inside.next, c.new-app.result) ∷ []) (ap held_at c.reserve-2.ensures.rest_kept) in
    let among = same_through _ _ _ (ap impossible_in entries) (among_more (entries_at (held_at c.self.inside.apps) c.self.inside.index.entries) c.self.inside.next c.new-app.result c.new-app.ensures.impossible) in
    rw (← c.self.view_is) among
