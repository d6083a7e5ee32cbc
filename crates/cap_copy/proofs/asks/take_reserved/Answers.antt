use Rattle.cap_copy.proofs.Prelude.{List, ◌≡◌, refl, sym, subst, ◌∙◌, ap, length, map, take, Some, None, slice_get, slice_get_read, NodeSight, AskEntry, AreRanges, IsRangeOf, beside, beside_one, range_in}
use Rattle.cap_copy.proofs.Fitting.{reservation_of_few, seen_ask_of_few}
use Rattle.cap_copy.proofs.Ranging.{inside_range}
use Rattle.cap_copy.proofs.Reserving.{free_more, held_more, none_beside_all, not_there, ranges_beside}
use Rattle.cap_copy.proofs.asks.take_reserved.Goals as goal

pub loop-node-init : goal.loop-node-init
loop-node-init g c = sym (none_beside_all c.args.asks.now.items)

pub loop-node-preserved-in_default : goal.loop-node-preserved-in_default
loop-node-preserved-in_default g c =
    let nodes = c.args.nodes.now in
    let i = c.loop-node.node-index in
    let node = c.node-item.result in
    let at : slice_get nodes i ≡ Some node = slice_get_read nodes (length nodes) i node refl c.loop-node-test.true c.node-item.is in
    let none = sym (ap (λ (n : NodeSight). n.reservation) c.node.view_is) ∙ c.in_default.is in
    c.loop-node.invariant ∙ free_more nodes i node at none c.args.asks.now.items

pub loop-node-preserved-in_default-range_of : goal.loop-node-preserved-in_default-range_of
loop-node-preserved-in_default-range_of g c =
    let nodes = c.args.nodes.now in
    let i = c.loop-node.node-index in
    let node = c.node-item.result in
    let asks = c.args.asks.now.items in
    let ranges = map range_in c.args.apps.now in
    let r = c.in-Some.reservation in
    let at : slice_get nodes i ≡ Some node = slice_get_read nodes (length nodes) i node refl c.loop-node-test.true c.node-item.is in
    let some = sym (ap (λ (n : NodeSight). n.reservation) c.node.view_is) ∙ c.in-Some.is in
    let none = subst (λ n. IsRangeOf n ranges None) c.app.ensures c.in_default-range_of.ensures in
    c.loop-node.invariant
    ∙ sym (not_there r (map (beside (take i nodes)) asks) ranges (ranges_beside (take i nodes) asks ranges c.requires.ranges) none)
    ∙ held_more nodes i node at r some asks

pub take_one-requires : goal.take_one-requires
take_one-requires g c =
    let nodes = c.args.nodes.now in
    let i = c.loop-node.node-index in
    let ranges = map range_in c.args.apps.now in
    let few = c.requires.resources in
    let found = subst (λ n. IsRangeOf n ranges (Some c.in-Some-range_of.range)) c.app.ensures c.in-Some-range_of.ensures in
    let are = subst (λ (es : List AskEntry). AreRanges es ranges) (sym c.loop-node.invariant) (ranges_beside (take i nodes) c.args.asks.now.items ranges c.requires.ranges) in
    let inside = inside_range c.loop-node.asks.items ranges c.in-Some.reservation.app c.in-Some-range_of.range are found in
    (seen_ask_of_few _ few, (reservation_of_few _ few, inside))

pub loop-node-preserved : goal.loop-node-preserved
loop-node-preserved g c =
    let nodes = c.args.nodes.now in
    let i = c.loop-node.node-index in
    let node = c.node-item.result in
    let r = c.in-Some.reservation in
    let at : slice_get nodes i ≡ Some node = slice_get_read nodes (length nodes) i node refl c.loop-node-test.true c.node-item.is in
    let some = sym (ap (λ (n : NodeSight). n.reservation) c.node.view_is) ∙ c.in-Some.is in
    c.take_one.ensures ∙ ap (map (beside_one r)) c.loop-node.invariant ∙ held_more nodes i node at r some c.args.asks.now.items
