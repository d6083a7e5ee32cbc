use Rattle.cap_asks.proofs.Prelude.{ap, sym, ◌∙◌, option_map, HeldApp, held_at, entries_at}
use Rattle.cap_asks.proofs.Entries.{by_number, app_found, account_found}
use Rattle.cap_asks.proofs.Slots.{slot_taken, opened, looked_at}
use Rattle.cap_asks.proofs.Impossible.{own_wants}
use Rattle.cap_asks.proofs.apps.Apps.app.Goals as goal

pub returns-in_err-slot-clause-found : goal.returns-in_err-slot-clause-found
returns-in_err-slot-clause-found g c = rw (c.from_residual.ensures, ← c.self.view_is) (sym ((app_found 1 c.args.n c.self.inside.next (entries_at (held_at c.self.inside.apps) c.self.inside.index.entries) c.self.invariant.0.numbered) ∙ ap (option_map (λ (h : HeldApp). h.app)) (by_number c.args.n _ (looked_at (held_at c.self.inside.apps) c.args.n c.self.inside.index.entries c.in_err-slot.ensures.value))))

pub returns-in_err-slot-clause-account : goal.returns-in_err-slot-clause-account
returns-in_err-slot-clause-account g c = rw (c.from_residual.ensures, ← c.self.view_is) (sym ((account_found c.args.n (entries_at (held_at c.self.inside.apps) c.self.inside.index.entries)) ∙ ap (option_map (λ (h : HeldApp). h.account)) (by_number c.args.n _ (looked_at (held_at c.self.inside.apps) c.args.n c.self.inside.index.entries c.in_err-slot.ensures.value))))

pub index-requires : goal.index-requires
index-requires g c = slot_taken c.self.inside.apps c.self.inside.index.entries c.args.n c.self.inside.next c.self.invariant.0.numbered c.in_ok-slot.ensures.value

pub returns-clause-found : goal.returns-clause-found
returns-clause-found g c = rw (← c.self.view_is) (sym ((app_found 1 c.args.n c.self.inside.next (entries_at (held_at c.self.inside.apps) c.self.inside.index.entries) c.self.invariant.0.numbered) ∙ ap (option_map (λ (h : HeldApp). h.app)) (opened c.self.inside.apps c.self.inside.index.entries c.args.n c.in_ok-slot.field-0.now c.index.result.now c.deref.result.now c.in_ok-slot.ensures.value c.index.ensures c.deref.ensures)))

pub returns-clause-account : goal.returns-clause-account
returns-clause-account g c = rw (← c.self.view_is) (sym ((account_found c.args.n (entries_at (held_at c.self.inside.apps) c.self.inside.index.entries)) ∙ ap (option_map (λ (h : HeldApp). h.account)) (opened c.self.inside.apps c.self.inside.index.entries c.args.n c.in_ok-slot.field-0.now c.index.result.now c.deref.result.now c.in_ok-slot.ensures.value c.index.ensures c.deref.ensures)))

pub returns-in_err-slot-clause-impossible : goal.returns-in_err-slot-clause-impossible
returns-in_err-slot-clause-impossible g c = rw c.from_residual.ensures tt

pub returns-clause-impossible : goal.returns-clause-impossible
returns-clause-impossible g c =
    rw (← c.self.view_is) (own_wants c.args.n (entries_at (held_at c.self.inside.apps) c.self.inside.index.entries) c.deref.result.now (opened c.self.inside.apps c.self.inside.index.entries c.args.n c.in_ok-slot.field-0.now c.index.result.now c.deref.result.now c.in_ok-slot.ensures.value c.index.ensures c.deref.ensures))
