use Rattle.cap_nodes.proofs.Sizes.{amounts_fit, present_fits, node_fits, load_fits}
use Rattle.cap_nodes.proofs.Prelude.{map, ◌≡◌, ◌∙◌, [], ap, sym, List, length, not, arith, filter, ◌==◌, less, amount_max, rising_kept, Load, reservation_of, ClusterNode, Container, NodeTable, sum_of_totals}
use Rattle.cap_nodes.proofs.Changes.{nodes_of, no_load, without_empty, nodes_kept, total_fits, total_without}
use Rattle.cap_nodes.proofs.Sums.{less_within}
use Rattle.cap_nodes.proofs.Reserving.{have_kept}
use Rattle.cap_nodes.proofs.nodes.Nodes.gone.Goals as goal

pub unreachable-requires : goal.unreachable-requires
unreachable-requires g c = no_load c.self.inside.present.loads c.args.number (sym c.in_default.ensures) (rw (← c.self.view_is) at c.requires.present)

pub minus-self-inside-requires : goal.minus-self-inside-requires
minus-self-inside-requires g c =
    let long : length c.in-Some.load.now.node.total ≡ g.row.K = rw c.node.ensures at c.total.ensures.vector.count in
    let fits = total_fits g.row.K c.self.inside.present.next c.args.number c.self.inside.present.loads c.in-Some.load.now c.self.invariant.2 (sym c.in-Some.ensures) (omega (arith, long)) in
    (search amounts_fit, (search amounts_fit, rw (c.total.ensures.value, c.node.ensures, c.self.invariant.1) fits))

pub invariant_of-self : goal.invariant_of-self
invariant_of-self g c =
    let sum = sum_of_totals g.row.K (nodes_of c.self.inside.present.loads) in
    let e : c.minus-self-inside.result ≡ less sum c.in-Some.load.now.node.total =
    c.minus-self-inside.ensures ∙ ap (λ v. less v c.total.result) c.self.invariant.1 ∙ ap (less sum) (c.total.ensures.value ∙ ap (λ (n : ClusterNode). n.total) c.node.ensures) in
    let empty : filter (λ (x : Container). x.node == c.args.number) c.self.inside.live.containers ≡ [] = rw (← c.self.view_is) at c.requires.empty in
    rw c.remove.ensures (
      without_empty g.row.K c.self.inside.present.loads c.self.inside.live.containers c.self.invariant.0 c.args.number empty,
      e ∙ total_without g.row.K c.self.inside.present.next c.args.number c.self.inside.present.loads c.in-Some.load.now c.self.invariant.2 (sym c.in-Some.ensures),
      rising_kept (λ (p : Load). p.node.number) (λ (p : Load). not (p.node.number == c.args.number)) 1 c.self.inside.present.loads c.self.inside.present.next c.self.invariant.2,
      less_within amount_max c.self.inside.total c.total.result c.minus-self-inside.result c.minus-self-inside.ensures c.self.invariant.3,
      have_kept (map reservation_of c.self.inside.reserved.containers) c.args.number c.self.inside.present.loads c.self.invariant.4,
    )

pub returns : goal.returns
returns g c =
    rw (← c.self.view_is, c.remove.ensures)
    (ap (λ (ns : List ClusterNode). let t : NodeTable = record { present = ns; live = c.self.inside.live.containers; reserved = map reservation_of c.self.inside.reserved.containers; next_node = c.self.inside.present.next; next_container = c.self.inside.live.next } in t)
    (nodes_kept c.args.number c.self.inside.present.loads))

pub remove-requires : goal.remove-requires
remove-requires g c = search present_fits

pub total-requires : goal.total-requires
total-requires g c = search (node_fits, amounts_fit)

pub node-requires : goal.node-requires
node-requires g c = search (load_fits, node_fits)

pub get-requires : goal.get-requires
get-requires g c = search (present_fits, load_fits)
