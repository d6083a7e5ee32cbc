use Rattle.cap_nodes.proofs.Sizes.{present_fits, amounts_fit, containers_fit}
use Rattle.cap_nodes.proofs.Prelude.{map, ◌∙◌, ◌≤◌, ap, sym, List, refl, length, arith, not, filter, ◌==◌, ClusterNode, Container, NodeTable, sum_of_totals, held_less, HasOne, reservation_of, one_completed}
use Rattle.cap_nodes.proofs.Presents.{if_found}
use Rattle.cap_nodes.proofs.Changes.{home_of, has_it, nodes_of, without_one, same_nodes, at_of, rising_changed}
use Rattle.cap_nodes.proofs.Reserving.{have_changed}
use Rattle.cap_nodes.proofs.nodes.Nodes.lift.Goals as goal

pub change-requires : goal.change-requires
change-requires g c =
    let there = (rw (← c.self.view_is) at c.requires) in
    let home = home_of g.row.K c.self.inside.present.loads c.self.inside.live.containers c.self.invariant.0 c.args.container.now.number c.args.container.now there in
    let at = at_of c.self.inside.present.loads c.args.container.now.node home in
    let short : length c.args.container.now.resource ≤ g.row.K = omega (arith, c.resource.ensures.vector.count) in (
      search present_fits,
      (
        omega arith,
        rw (c.node.ensures, c.resource.ensures.value)
            (if_found (HasOne c.args.container.now.resource) _ at.load at.at (has_it g.row.K c.self.inside.present.loads c.self.inside.live.containers c.self.invariant.0 c.self.inside.live.next c.args.container.now.number c.args.container.now at.load c.numbers_rise.ensures there at.at short)),
      ),
    )

pub invariant_of-self : goal.invariant_of-self
invariant_of-self g c =
    let there = (rw (← c.self.view_is) at c.requires) in
    let at = at_of c.self.inside.present.loads c.args.container.now.node (home_of g.row.K c.self.inside.present.loads c.self.inside.live.containers c.self.invariant.0 c.args.container.now.number c.args.container.now there) in
    rw (c.change.ensures.loads, c.remove.ensures, c.number.ensures, c.node.ensures, c.resource.ensures.value) (
      without_one g.row.K c.self.inside.present.loads c.self.inside.live.containers c.self.invariant.0 c.self.inside.present.next c.self.inside.live.next c.args.container.now.number c.args.container.now at.load c.self.invariant.2 c.numbers_rise.ensures there at.at,
      c.self.invariant.1 ∙ ap (sum_of_totals g.row.K) (sym (same_nodes c.args.container.now.node (held_less c.args.container.now.resource) c.self.inside.present.loads (λ p. refl))),
      rising_changed c.args.container.now.node (held_less c.args.container.now.resource) (λ p. refl) c.self.inside.present.loads c.self.inside.present.next c.self.invariant.2,
      c.self.invariant.3,
      have_changed (map reservation_of c.self.inside.reserved.containers) c.args.container.now.node (held_less c.args.container.now.resource) (λ p. (refl, refl)) c.self.inside.present.loads c.self.invariant.4,
    )

pub returns : goal.returns
returns g c =
    let here = c.self.inside.present in
    let tables : List ClusterNode → List Container → NodeTable = λ ns cs. record { present = ns; live = cs; reserved = map reservation_of c.self.inside.reserved.containers; next_node = here.next; next_container = c.self.inside.live.next } in
    rw (← c.self.view_is, c.change.ensures.loads, c.remove.ensures, c.number.ensures, c.node.ensures, c.resource.ensures.value)
    (ap (λ ns. tables ns (filter (λ x. not (x.number == c.args.container.now.number)) c.self.inside.live.containers)) (same_nodes c.args.container.now.node (held_less c.args.container.now.resource) here.loads (λ p. refl))
    ∙ ap (tables (nodes_of here.loads)) (one_completed c.args.container.now c.self.inside.live.containers))

pub remove-requires : goal.remove-requires
remove-requires g c = search containers_fit

pub resource-requires : goal.resource-requires
resource-requires g c = search amounts_fit

pub numbers_rise-requires : goal.numbers_rise-requires
numbers_rise-requires g c = search containers_fit
