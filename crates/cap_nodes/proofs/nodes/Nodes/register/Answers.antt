use Rattle.cap_nodes.proofs.Prelude.{length-map, ◌≡◌, ◌∙◌, ap, sym, map, refl, true, None, length, arith, plus, zeros, IsWithin, amount_max, amount-plus, ClusterNode, NodeTable, sum_of_totals, rising_more, Load, reservation_of}
use Rattle.cap_nodes.proofs.Sizes.{present_fits, reservation_fits}
use Rattle.cap_nodes.proofs.Sums.{where-push-own}
use Rattle.cap_nodes.proofs.Changes.{nodes_of, with_node, nodes_pushed}
use Rattle.cap_nodes.proofs.Reserving.{have_pushed}
use Rattle.cap_nodes.proofs.nodes.Nodes.register.Goals as goal

pub invariant_of-self-2 : goal.invariant_of-self-2
invariant_of-self-2 g c =
    let node : ClusterNode = record { number = c.self.inside.present.next; host = c.args.host.now; rack = c.args.rack.now; total = c.args.total.now; response = 0; kept = None } in
    let load : Load = record { node = node; held = zeros g.row.K; live = 0; reservation = c.oldest_for-reservation.result } in
    let within : IsWithin amount_max (plus (sum_of_totals g.row.K (nodes_of c.self.inside.present.loads)) c.args.total.now) = rw (← c.self.view_is) at c.requires.within in
    let small : IsWithin amount_max c.args.total.now = λ k. omega (arith, within k, amount-plus (sum_of_totals g.row.K (nodes_of c.self.inside.present.loads)) c.args.total.now k) in
    let count : length (plus (sum_of_totals g.row.K (nodes_of c.self.inside.present.loads)) c.args.total.now) ≡ g.row.K = rw c.self.invariant.1 at c.in-Some.ensures.count in
    rw c.in-Ok.ensures.ok.1 (
      with_node g.row.K c.self.inside.present.loads c.self.inside.live.containers c.self.invariant.0 c.self.inside.present.next node c.oldest_for-reservation.result c.self.invariant.2 refl small,
      c.in-Some.ensures.some ∙ ap (λ v. plus v c.args.total.now) c.self.invariant.1 ∙ sym (where-push-own g.row.K (λ (x : ClusterNode). true) (λ x. x.total) (nodes_of c.self.inside.present.loads) node refl count) ∙ ap (sum_of_totals g.row.K) (sym (nodes_pushed c.self.inside.present.loads load)),
      rising_more (λ (p : Load). p.node.number) 1 c.self.inside.present.loads load c.self.inside.present.next refl c.self.invariant.2,
      λ k. rw (c.in-Some.ensures.some, c.self.invariant.1) (within k),
      have_pushed (map reservation_of c.self.inside.reserved.containers) c.self.inside.present.loads load c.self.invariant.4 (rw (← c.self.view_is, c.next.ensures) at c.oldest_for-reservation.ensures),
    )

pub checked_add-requires : goal.checked_add-requires
checked_add-requires g c = search

pub push-requires : goal.push-requires
push-requires g c =
    let count = ap (λ (t : NodeTable). length t.present) c.self.view_is in
    let nodes = length-map c.self.inside.present.loads (λ p. p.node) in
    (search present_fits, ((search), (search reservation_fits, (omega (arith, count, nodes, c.requires.few), rw (← c.self.view_is) at c.requires.numbered))))
