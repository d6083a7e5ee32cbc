use Rattle.cap_commit.proofs.Fitting.{in_cluster, nodes_in_cluster}
use Rattle.cap_commit.proofs.Prelude.{ap, sym, ◌∙◌, map, arith, filter, with_reserved, queues_of, lowered_row, path_at, is_elsewhere, NodeTable, flat_of, zero_count, use_alone}
use Rattle.cap_commit.proofs.Unreserving.{place_of, has_holder, may_give_reserved, held_dropped, dropped_is}
use Rattle.cap_commit.proofs.Holding.{placed_at, position_is}
use Rattle.cap_commit.proofs.Moving.{moved_settings}
use Rattle.cap_commit.proofs.Sizes.{tree_fits}
use Rattle.cap_commit.proofs.Followed.{follows_nodes, follows_rows}
use Rattle.cap_commit.proofs.Waiting.{moved_keeps}
use Rattle.cap_commit.proofs.Reach.{nodes_same}
use Rattle.cap_commit.proofs.cluster.Cluster.unreserve.Goals as goal

pub unreachable-requires : goal.unreachable-requires
unreachable-requires g c =
    let one = c.args.reservation.now in
    let place = place_of one.node c.self.inside.nodes.reserved one c.self.invariant.consistent.reservations.apart (rw (← c.self.view_is) at c.requires) in
    has_holder _ c.self.invariant.consistent place.index one place.below place.at c.app.result c.app.ensures c.in_default.ensures.found

pub give_back-requires : goal.give_back-requires
give_back-requires g c =
    let one = c.args.reservation.now in
    let place = place_of one.node c.self.inside.nodes.reserved one c.self.invariant.consistent.reservations.apart (rw (← c.self.view_is) at c.requires) in
    let kinds = c.self.invariant.consistent.resources in
    let count = c.resource.ensures.vector.count in
    let position = c.position.ensures ∙ position_is _ c.self.invariant.consistent c.app.result c.in-Some.app.now c.in-Some.ensures.found c.in-Some.ensures.account in
    let owner = sym (rw c.app.ensures at c.in-Some.ensures.found) in (
      tree_fits _ c.self.invariant.consistent.resources,
      (
        omega arith,
        (
          omega (arith, kinds),
          rw (c.deref_mut-tree.ensures.value, c.user.ensures, c.resource.ensures.value, position)
              (may_give_reserved _ c.self.invariant.consistent place.index one place.below place.at c.in-Some.app.now.app owner (omega (arith, count))),
        ),
      ),
    )

pub invariant_of-self : goal.invariant_of-self
invariant_of-self g c =
    let x = c.self.inside in
    let one = c.args.reservation.now in
    let place = place_of one.node x.nodes.reserved one c.self.invariant.consistent.reservations.apart (rw (← c.self.view_is) at c.requires) in
    let app = c.in-Some.app.now.app in
    let count = c.resource.ensures.vector.count in
    let position = c.position.ensures ∙ position_is _ c.self.invariant.consistent c.app.result c.in-Some.app.now c.in-Some.ensures.found c.in-Some.ensures.account in
    let path = ap (λ q. path_at q x.tree.value) position ∙ (placed_at _ c.self.invariant.consistent c.app.result app (sym c.in-Some.ensures.found)).position.path_is in
    let rows = (rw c.deref_mut-tree.ensures.value at c.give_back.ensures) ∙ (λ i. map (lowered_row g.row.K (path i) (c.user.ensures i) (c.resource.ensures.value i)) x.tree.value) in
    let owner = sym (rw c.app.ensures at c.in-Some.ensures.found) in
    let left = (λ i. filter (is_elsewhere (c.node.ensures i)) x.nodes.reserved) ∙ sym place.gone in
    rw rows
    (record {
      consistent = held_dropped _ c.self.invariant.consistent place.index one place.below place.at app owner (omega (arith, count)) c.unreserve.new.self (c.unreserve.ensures ∙ ap (λ rs. record x.nodes { reserved = rs }) left);
      waiting =
          follows_nodes x.nodes.present c.unreserve.new.self.present x.apps.table.active _ (λ wants. nodes_same x.nodes.present c.unreserve.new.self.present wants (ap (λ (t : NodeTable). t.present) c.unreserve.ensures))
          (follows_rows _ (moved_keeps g.row.K app.leaf app.user (use_alone one.resource) (zero_count g.row.K)) x.apps.table.active x.tree.value c.self.invariant.waiting);
      impossible = nodes_same x.nodes.present c.unreserve.new.self.present x.apps.impossible (ap (λ (t : NodeTable). t.present) c.unreserve.ensures) c.self.invariant.impossible;
    })

pub returns-clause-flat : goal.returns-clause-flat
returns-clause-flat g c =
    let x = c.self.inside in
    let one = c.args.reservation.now in
    let place = place_of one.node x.nodes.reserved one c.self.invariant.consistent.reservations.apart (rw (← c.self.view_is) at c.requires) in
    let rows = rw c.deref_mut-tree.ensures.value at c.give_back.ensures in
    let settings = ap queues_of rows ∙ moved_settings g.row.K _ c.user.result.now (use_alone c.resource.result) (zero_count g.row.K) x.tree.value in
    let left = (λ i. filter (is_elsewhere (c.node.ensures i)) x.nodes.reserved) ∙ sym place.gone in
    let dropped = dropped_is _ c.self.invariant.consistent place.index one place.below place.at c.give_back.new.self c.unreserve.new.self settings (c.unreserve.ensures ∙ ap (λ rs. record x.nodes { reserved = rs }) left) in
    rw (← c.self.view_is) (dropped ∙ ap (λ rs. with_reserved rs (flat_of (record { rows = x.tree.value; limits = x.limits; apps = x.apps; nodes = x.nodes }))) place.gone)

pub unreserve-requires : goal.unreserve-requires
unreserve-requires g c = (search nodes_in_cluster, c.self.invariant.consistent.reservations.apart)

pub resource-requires : goal.resource-requires
resource-requires g c = search in_cluster

pub node-requires : goal.node-requires
node-requires g c = search in_cluster

pub app-requires : goal.app-requires
app-requires g c = search in_cluster
