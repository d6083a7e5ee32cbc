use Rattle.cap_copy.proofs.Prelude.{[], ap, ◌∙◌, map, subst, sym, holds_of, SeenQueue, HoldsOfItem, item_at}
use Rattle.cap_copy.proofs.NextServed.{first_is, none_first, once}
use Rattle.cap_copy.proofs.Fitting.{seen_fits}
use Rattle.cap_copy.proofs.seen_tree.SeenTree.first_served.Goals as goal

pub top-requires-room-T-TreeItem : goal.top-requires-room-T-TreeItem
top-requires-room-T-TreeItem g c κs within = search seen_fits

pub top-requires-room-T-Destruct : goal.top-requires-room-T-Destruct
top-requires-room-T-Destruct g c κs within = search seen_fits

pub first_waiting-requires-room-T-TreeItem : goal.first_waiting-requires-room-T-TreeItem
first_waiting-requires-room-T-TreeItem g c κs within = search seen_fits

pub first_waiting-requires-room-T-Destruct : goal.first_waiting-requires-room-T-Destruct
first_waiting-requires-room-T-Destruct g c κs within = search seen_fits

pub first_waiting-requires-room-T-Marked : goal.first_waiting-requires-room-T-Marked
first_waiting-requires-room-T-Marked g c κs within = search seen_fits

pub first_waiting-requires-room-T-Served : goal.first_waiting-requires-room-T-Served
first_waiting-requires-room-T-Served g c κs within = search seen_fits

pub waits-requires : goal.waits-requires
waits-requires g c = search seen_fits

pub returns-then-not-waits : goal.returns-then-not-waits
returns-then-not-waits g c =
    let root = ap (item_at []) c.top.ensures.is in
    rw (← c.self.view_is) (record { next = none_first c.self.inside.root (map (λ e. e.0.items) c.self.inside.places.items) c.self.inside.links.items c.self.invariant (subst (HoldsOfItem (λ (_ : SeenQueue). Unit {0})) (sym root) tt) (ap (holds_of (λ (q : SeenQueue). q.waits)) root ∙ sym c.waits.ensures ∙ c.if-not-waits.true) })

pub first_waiting-requires-clause-once : goal.first_waiting-requires-clause-once
first_waiting-requires-clause-once g c = once c.self.inside.root (map (λ e. e.0.items) c.self.inside.places.items) c.self.inside.links.items c.self.invariant

pub first_waiting-requires-clause-some : goal.first_waiting-requires-clause-some
first_waiting-requires-clause-some g c = ap (holds_of (λ (q : SeenQueue). q.waits)) (ap (item_at []) c.top.ensures.is) ∙ sym c.waits.ensures ∙ c.if-not-waits.false

pub returns : goal.returns
returns g c = rw (← c.self.view_is) (record { next = first_is c.self.inside.root (map (λ e. e.0.items) c.self.inside.places.items) c.self.inside.links.items c.self.invariant c.first_waiting.result c.first_waiting.ensures })

pub overflow_sub-result : goal.overflow_sub-result
overflow_sub-result g c = c.first_waiting.ensures.some
