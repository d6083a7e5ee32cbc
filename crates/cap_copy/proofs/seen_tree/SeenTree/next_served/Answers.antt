use Rattle.cap_copy.proofs.Prelude.{arith, ◌∙◌, ◌-◌, ◌<◌, one-le_iff_ne-zero, Some, sym, subst, map, slice_get_within, rows_seen, IsFirstLater}
use Rattle.cap_copy.proofs.NextServed.{has_mark, link_is, link_read, next_is, none_next, once}
use Rattle.cap_copy.proofs.Fitting.{seen_fits}
use Rattle.cap_copy.proofs.seen_tree.SeenTree.next_served.Goals as goal

pub places_differ-requires-room-T-TreeItem : goal.places_differ-requires-room-T-TreeItem
places_differ-requires-room-T-TreeItem g c κs within = search seen_fits

pub places_differ-requires-room-T-Destruct : goal.places_differ-requires-room-T-Destruct
places_differ-requires-room-T-Destruct g c κs within = search seen_fits

pub places_differ-requires-room-T-Served : goal.places_differ-requires-room-T-Served
places_differ-requires-room-T-Served g c κs within = search seen_fits

pub places_differ-requires : goal.places_differ-requires
places_differ-requires g c = once c.self.inside.root (map (λ e. e.0.items) c.self.inside.places.items) c.self.inside.links.items c.self.invariant

pub index-link-requires : goal.index-link-requires
index-link-requires g c =
    let w = slice_get_within _ c.args.index c.args.position.now (rw (← c.self.view_is) at c.requires) in
    subst (λ n. c.args.index < n) (sym (c.self.inside.links.ok.0 ∙ c.self.invariant.many)) w

pub returns-then-link-ne0 : goal.returns-then-link-ne0
returns-then-link-ne0 g c =
    let at = rw (← c.self.view_is) at c.requires in
    let is = link_read c.self.inside.root (map (λ e. e.0.items) c.self.inside.places.items) c.self.inside.links.items c.self.invariant c.args.index c.args.position.now at c.index-link.result.now c.index-link.ensures in
    let next = link_is c.self.inside.root (map (λ e. e.0.items) c.self.inside.places.items) c.self.inside.links.items c.self.invariant c.args.index c.args.position.now at c.places_differ.ensures (omega (arith, is, c.if-link-ne0.true)) in
    rw (← c.self.view_is) (record { next = subst (λ n. IsFirstLater (rows_seen c.self.inside.root) (map (λ e. e.0.items) c.self.inside.places.items) (Some c.args.index) (n - 1)) (sym is) next })

pub next_waiting-requires-room-T-TreeItem : goal.next_waiting-requires-room-T-TreeItem
next_waiting-requires-room-T-TreeItem g c κs within = search seen_fits

pub next_waiting-requires-room-T-Destruct : goal.next_waiting-requires-room-T-Destruct
next_waiting-requires-room-T-Destruct g c κs within = search seen_fits

pub next_waiting-requires-room-T-Marked : goal.next_waiting-requires-room-T-Marked
next_waiting-requires-room-T-Marked g c κs within = search seen_fits

pub next_waiting-requires-room-T-Served : goal.next_waiting-requires-room-T-Served
next_waiting-requires-room-T-Served g c κs within = search seen_fits

pub next_waiting-requires-clause-once : goal.next_waiting-requires-clause-once
next_waiting-requires-clause-once g c = once c.self.inside.root (map (λ e. e.0.items) c.self.inside.places.items) c.self.inside.links.items c.self.invariant

pub next_waiting-requires-clause-after : goal.next_waiting-requires-clause-after
next_waiting-requires-clause-after g c = (has_mark c.self.inside.root (map (λ e. e.0.items) c.self.inside.places.items) c.self.inside.links.items c.self.invariant c.args.index c.args.position.now (rw (← c.self.view_is) at c.requires)).0

pub returns-in-None : goal.returns-in-None
returns-in-None g c =
    let at = rw (← c.self.view_is) at c.requires in
    let is = link_read c.self.inside.root (map (λ e. e.0.items) c.self.inside.places.items) c.self.inside.links.items c.self.invariant c.args.index c.args.position.now at c.index-link.result.now c.index-link.ensures in
    rw (← c.self.view_is) (record { next = none_next c.self.inside.root (map (λ e. e.0.items) c.self.inside.places.items) c.self.inside.links.items c.self.invariant c.args.index c.args.position.now at (sym is ∙ c.if-link-ne0.false) c.in-None.ensures })

pub returns-in-Some : goal.returns-in-Some
returns-in-Some g c =
    let at = rw (← c.self.view_is) at c.requires in
    let is = link_read c.self.inside.root (map (λ e. e.0.items) c.self.inside.places.items) c.self.inside.links.items c.self.invariant c.args.index c.args.position.now at c.index-link.result.now c.index-link.ensures in
    rw (← c.self.view_is) (record { next = next_is c.self.inside.root (map (λ e. e.0.items) c.self.inside.places.items) c.self.inside.links.items c.self.invariant c.args.index c.args.position.now at (sym is ∙ c.if-link-ne0.false) c.in-Some.mark c.in-Some.ensures })

pub overflow_sub-result : goal.overflow_sub-result
overflow_sub-result g c = one-le_iff_ne-zero.1 c.if-link-ne0.true

pub overflow_sub-result-in-Some : goal.overflow_sub-result-in-Some
overflow_sub-result-in-Some g c = c.in-Some.ensures.some
