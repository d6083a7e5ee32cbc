use Rattle.cap_nodes.proofs.Sizes.{containers_fit, container_fits, present_fits, reserved_fits}
use Rattle.cap_nodes.proofs.Prelude.{Load, arith, ap, sym, ◌∙◌, map, not, refl, List, filter, ◌==◌, ClusterNode, Container, NodeTable, Reservation, reservation_of, unreserved_load}
use Rattle.cap_nodes.proofs.Presents.{if_any}
use Rattle.cap_nodes.proofs.Changes.{same_nodes}
use Rattle.cap_nodes.proofs.Dropping.{one_dropped, none_dropped}
use Rattle.cap_nodes.proofs.Holding.{holds_dropped}
use Rattle.cap_nodes.proofs.nodes.Nodes.unreserve.Goals as goal

pub invariant_of-self : goal.invariant_of-self
invariant_of-self g c =
    let here = c.self.inside in
    let left = one_dropped c.args.node here.reserved.containers here.reserved.next (rw c.made-reserved.ensures at c.numbers_rise.ensures) (rw (← c.self.view_is) at c.requires) c.in-Some.container (sym (rw c.made-reserved.ensures at c.next_on_node.ensures) ∙ c.in-Some.is) in
    rw (c.change.ensures.loads, c.remove.ensures, c.number.ensures)
    (holds_dropped g.row.K here.present.loads here.live.containers here.reserved.containers here.present.next here.total c.self.invariant c.args.node (filter (λ (d : Container). not (d.number == c.in-Some.container.number)) here.reserved.containers) left)

pub returns-in-Some : goal.returns-in-Some
returns-in-Some g c =
    let here = c.self.inside in
    let tables : List ClusterNode → List Reservation → NodeTable = λ ns rs. record { present = ns; live = here.live.containers; reserved = rs; next_node = here.present.next; next_container = here.live.next } in
    let left = one_dropped c.args.node here.reserved.containers here.reserved.next (rw c.made-reserved.ensures at c.numbers_rise.ensures) (rw (← c.self.view_is) at c.requires) c.in-Some.container (sym (rw c.made-reserved.ensures at c.next_on_node.ensures) ∙ c.in-Some.is) in
    rw (← c.self.view_is, c.change.ensures.loads, c.remove.ensures, c.number.ensures)
    (ap (λ ns. tables ns (map reservation_of (filter (λ (d : Container). not (d.number == c.in-Some.container.number)) here.reserved.containers))) (same_nodes c.args.node unreserved_load here.present.loads (λ p. refl))
    ∙ ap (tables (map (λ p. p.node) here.present.loads)) left)

pub returns-in_default : goal.returns-in_default
returns-in_default g c =
    let here = c.self.inside in
    let tables : List Reservation → NodeTable = λ rs. record { present = map (λ p. p.node) here.present.loads; live = here.live.containers; reserved = rs; next_node = here.present.next; next_container = here.live.next } in
    rw (← c.self.view_is)
    (sym (ap tables (none_dropped c.args.node here.reserved.containers here.reserved.next (rw c.made-reserved.ensures at c.numbers_rise.ensures) (sym c.in_default.is ∙ (rw c.made-reserved.ensures at c.next_on_node.ensures)))))

pub remove-requires : goal.remove-requires
remove-requires g c = search reserved_fits

pub number-requires : goal.number-requires
number-requires g c = search container_fits

pub next_on_node-requires : goal.next_on_node-requires
next_on_node-requires g c = search (containers_fit, container_fits)

pub numbers_rise-requires : goal.numbers_rise-requires
numbers_rise-requires g c = search containers_fit

pub change-requires : goal.change-requires
change-requires g c = (search present_fits, (omega arith, if_any (λ (p : Load). Unit {0}) _ (λ p. tt)))
