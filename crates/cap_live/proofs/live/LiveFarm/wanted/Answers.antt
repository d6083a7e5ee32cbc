use Rattle.cap_live.proofs.Sizes.{cluster_of_few, nodes_of_few}
use Rattle.cap_live.proofs.Prelude.{◌∙◌, ◌≡◌, ◌-◌, ◌<◌, ap, sym, subst, refl, length, map, filter, Some, All, IsSome, option_map, slice_get, slice_get_read, AreApart, ClusterState, IsRising, NodeTable, is_for, node_in, sight_of, still_wanted}
use Rattle.cap_live.proofs.Asks.{wanted_is}
use Rattle.cap_live.proofs.live.LiveFarm.wanted.Goals as goal

pub returns : goal.returns
returns g c =
    let flat = c.args.self.now.flat in
    let of = c.args.of.now.app in
    let n = c.nodes-nodes.ensures in
    let value = n.value ∙ ap (λ (s : ClusterState g.row.K). s.flat.nodes) c.self.view_is in
    let ask = c.index-asks-index.result in
    let at : slice_get of.asks c.args.index ≡ Some ask = subst (λ xs. slice_get xs c.args.index ≡ Some ask) c.asks.ensures.value (slice_get_read c.asks.result.now (length c.asks.result.now) c.args.index ask refl (subst (λ n. c.args.index < n) (ap length (sym c.asks.ensures.value)) c.requires.index) c.index-asks-index.is) in
    let apart = subst (λ (s : ClusterState g.row.K). AreApart s.flat.nodes.reserved) c.self.view_is n.apart in
    let there = subst (λ (t : NodeTable). All (λ r. IsSome (node_in t r.node)) t.reserved) value n.present in
    let rising = subst (λ (t : NodeTable). IsRising 1 (map (λ node. node.number) t.present) t.next_node) value c.numbers_rise.ensures.nodes in
    ap (option_map (still_wanted (sight_of flat) of.number)) at
    ∙ ap Some (wanted_is flat apart there rising of.number ask
    ∙ sym (c.saturating_sub.ensures ∙ (λ i. c.count.ensures i - (c.reserved_for.ensures ∙ (λ j. length (filter (is_for (c.number.ensures j) (c.key.ensures j)) (value j).reserved))) i)))

pub nodes-nodes-requires : goal.nodes-nodes-requires
nodes-nodes-requires g c = (cluster_of_few _ c.self.invariant, nodes_of_few _ c.self.invariant)
