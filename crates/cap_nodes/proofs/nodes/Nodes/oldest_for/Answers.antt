use Rattle.cap_nodes.proofs.Sizes.{container_fits, containers_fit, reserved_fits}
use Rattle.cap_nodes.proofs.Prelude.{◌∙◌, sym, Some, None, ◌==◌, Reservation}
use Rattle.cap_nodes.proofs.Walked.{first_kept}
use Rattle.cap_nodes.proofs.nodes.Nodes.oldest_for.Goals as goal

pub returns-in_default : goal.returns-in_default
returns-in_default g c =
    rw (← c.self.view_is)
    (first_kept (λ (r : Reservation). r.node == c.args.node) c.self.inside.reserved.containers c.self.inside.reserved.next (rw c.made-reserved.ensures at c.numbers_rise.ensures) None (sym c.in_default.is ∙ (rw c.made-reserved.ensures at c.next_on_node.ensures)))

pub returns : goal.returns
returns g c =
    rw (← c.self.view_is, c.reservation_of.ensures)
    (first_kept (λ (r : Reservation). r.node == c.args.node) c.self.inside.reserved.containers c.self.inside.reserved.next (rw c.made-reserved.ensures at c.numbers_rise.ensures) (Some c.in-Some.container) (sym c.in-Some.is ∙ (rw c.made-reserved.ensures at c.next_on_node.ensures)))

pub reservation_of-requires : goal.reservation_of-requires
reservation_of-requires g c = search container_fits

pub next_on_node-requires : goal.next_on_node-requires
next_on_node-requires g c = search (containers_fit, container_fits)

pub numbers_rise-requires : goal.numbers_rise-requires
numbers_rise-requires g c = search containers_fit

pub made-reserved-requires : goal.made-reserved-requires
made-reserved-requires g c = search (reserved_fits, containers_fit)
