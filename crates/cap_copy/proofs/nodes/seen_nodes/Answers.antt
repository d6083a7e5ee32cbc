use Rattle.cap_copy.proofs.Fitting.{reservation_by_nodes}
use Rattle.cap_copy.proofs.Prelude.{take_all, amounts_fit, load_fits, node_fits, present_fits, ◌≡◌, ◌++◌, ◌∷◌, [], ap, sym, ◌∙◌, arith, map, Some, find, ◌==◌, less, ClusterNode, held_on, free_on, left_of, node_seen}
use Rattle.cap_copy.proofs.LoopSteps.{map_more}
use Rattle.cap_copy.proofs.nodes.seen_nodes.Goals as goal

pub loop-index-preserved : goal.loop-index-preserved
loop-index-preserved g c =
    let load = c.nth-load.result.now in
    let node = c.node-node.result.now in
    let nodes = c.args.nodes.now in
    let in_table = c.nth-load.ensures.load in
    let at = c.nth-load.ensures.at ∙ ap (λ n. Some n) (sym c.node-node.ensures) in
    let free : c.free.result ≡ free_on g.row.K nodes node.number =
    c.free.ensures ∙ ap (less load.node.total) in_table.held ∙ ap (λ o. left_of o (held_on g.row.K nodes load.node.number)) (sym c.nth-load.ensures.found)
    ∙ ap (λ (n : ClusterNode). free_on g.row.K nodes n.number) (sym c.node-node.ensures) in
    let reservation : c.reservation.result ≡ find (λ r. r.node == node.number) nodes.reserved =
    c.reservation.ensures ∙ in_table.reservation ∙ ap (λ (n : ClusterNode). find (λ r. r.node == n.number) nodes.reserved) (sym c.node-node.ensures) in
    record {
      entries =
          c.push_reserved.ensures.items
          ∙ (λ i. c.loop-index.invariant.entries i ++ record { number = c.number.ensures i; host = c.host.ensures i; rack = c.rack.ensures i; total = c.total.ensures.value i; free = free i; reservation = reservation i } ∷ [])
          ∙ sym (map_more (node_seen g.row.K nodes) nodes.present c.loop-index.index node at);
      count = omega arith;
      room = omega arith;
    }

pub count-index-end-requires : goal.count-index-end-requires
count-index-end-requires g c = search

pub count-requires : goal.count-requires
count-requires g c = search

pub total-requires : goal.total-requires
total-requires g c = search (node_fits, amounts_fit)

pub rack-requires : goal.rack-requires
rack-requires g c = search node_fits

pub host-requires : goal.host-requires
host-requires g c = search node_fits

pub number-requires : goal.number-requires
number-requires g c = search node_fits

pub nth-load-requires : goal.nth-load-requires
nth-load-requires g c = let t = c.loop-index-test.true in let n = c.count-index-end.ensures.value in ((search), (search (present_fits, load_fits), omega (arith, t, n)))

pub node-node-requires : goal.node-node-requires
node-node-requires g c = search (load_fits, node_fits)

pub free-requires : goal.free-requires
free-requires g c = (search load_fits, (search amounts_fit, c.nth-load.ensures.load.fits))

pub reservation-requires : goal.reservation-requires
reservation-requires g c = search (load_fits, reservation_by_nodes)

pub returns : goal.returns
returns g c =
    let f = c.loop-index-test.false in
    let n = c.count-index-end.ensures.value in
    c.loop-index.invariant.entries ∙ ap (map (node_seen g.row.K c.args.nodes.now)) (take_all c.loop-index.index c.args.nodes.now.present (omega (arith, f, n)))
