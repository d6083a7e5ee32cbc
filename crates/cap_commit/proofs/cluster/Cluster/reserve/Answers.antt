use Rattle.cap_commit.proofs.Fitting.{nodes_in_cluster, amounts_in_cluster}
use Rattle.cap_commit.proofs.Prelude.{sym, ap, subst, ◌∙◌, arith, map, ◌==◌, find, App, add_reservation, use_alone, applied_row, queues_of, path_at, flat_of, IsSound, zeros}
use Rattle.cap_commit.proofs.Granted.{app_again}
use Rattle.cap_commit.proofs.Granting.{its_app}
use Rattle.cap_commit.proofs.Keeping.{held_reserved, may_take_none, reserve_kind, reserved_is, root_keeps}
use Rattle.cap_commit.proofs.Holding.{placed_at, position_is}
use Rattle.cap_commit.proofs.Moving.{moved_settings}
use Rattle.cap_commit.proofs.Sizes.{tree_fits}
use Rattle.cap_commit.proofs.Followed.{follows_rows}
use Rattle.cap_commit.proofs.Waiting.{moved_keeps}
use Rattle.cap_commit.proofs.cluster.Cluster.reserve.Goals as goal

pub returns-clause-proposed : goal.returns-clause-proposed
returns-clause-proposed g c = λ i. record { kind = reserve_kind c.args.proposal.now.kind c.requires.kind i; app = c.app-app.ensures i; key = c.key-key.ensures i; node = c.node-node.ensures i; resource = c.resource-resource.ensures.value i }

pub apply-requires : goal.apply-requires
apply-requires g c =
    let q = c.args.proposal.now in
    let x = c.self.inside in
    let passes = rw (← c.self.view_is) at c.requires.passes in
    let count = c.resource-resource.ensures.vector.count in
    let found = c.in-Some.ensures.found in
    let a = c.in-Some.owner.now.app in
    let owner = ap (λ n. find (λ (y : App). y.number == n) x.apps.table.active) (sym c.app-app.ensures) ∙ sym found in
    let position = c.position.ensures ∙ position_is _ c.self.invariant.consistent c.app-app.result c.in-Some.owner.now found c.in-Some.ensures.account in
    let nodes = c.in-Ok.ensures.ok ∙ (λ i. add_reservation (record { app = c.app-app.ensures i; key = c.key-key.ensures i; node = c.node-node.ensures i; resource = c.resource-resource.ensures.value i }) x.nodes) in
    let kinds = c.self.invariant.consistent.resources in (
      tree_fits _ c.self.invariant.consistent.resources,
      (
        omega arith,
        (
          omega (arith, kinds),
          (
            rw (c.deref_mut-tree.ensures.value, c.user.ensures, position, c.zero-old.ensures) (may_take_none _ c.self.invariant.consistent q passes c.requires.kind a owner count),
            rw (c.deref_mut-tree.ensures.value, c.zero-old.ensures, c.resource-resource.ensures.value) (root_keeps _ c.self.invariant.consistent q passes c.requires.kind a owner count (subst (IsSound g.row.K) nodes c.reserve.ensures.sound)),
          ),
        ),
      ),
    )

pub invariant_of-self-2 : goal.invariant_of-self-2
invariant_of-self-2 g c =
    let q = c.args.proposal.now in
    let x = c.self.inside in
    let passes = rw (← c.self.view_is) at c.requires.passes in
    let count = c.resource-resource.ensures.vector.count in
    let found = c.in-Some.ensures.found in
    let a = c.in-Some.owner.now.app in
    let owner = ap (λ n. find (λ (y : App). y.number == n) x.apps.table.active) (sym c.app-app.ensures) ∙ sym found in
    let position = c.position.ensures ∙ position_is _ c.self.invariant.consistent c.app-app.result c.in-Some.owner.now found c.in-Some.ensures.account in
    let nodes = c.in-Ok.ensures.ok ∙ (λ i. add_reservation (record { app = c.app-app.ensures i; key = c.key-key.ensures i; node = c.node-node.ensures i; resource = c.resource-resource.ensures.value i }) x.nodes) in
    let path = ap (λ n. path_at n x.tree.value) position ∙ (placed_at _ c.self.invariant.consistent q.app a owner).position.path_is in
    let rows = (rw c.deref_mut-tree.ensures.value at c.apply.ensures) ∙ (λ i. map (applied_row g.row.K (path i) (c.user.ensures i) (c.zero-old.ensures i) (c.resource-resource.ensures.value i)) x.tree.value) in
    rw (rows, nodes)
    (record {
      consistent = held_reserved _ c.self.invariant.consistent q passes c.requires.kind a owner count;
      waiting = follows_rows _ (moved_keeps g.row.K a.leaf a.user (use_alone (zeros g.row.K)) (use_alone q.resource)) x.apps.table.active x.tree.value c.self.invariant.waiting;
      impossible = c.self.invariant.impossible;
    })

pub returns-clause-ok : goal.returns-clause-ok
returns-clause-ok g c =
    let x = c.self.inside in
    let rows = rw c.deref_mut-tree.ensures.value at c.apply.ensures in
    let settings = ap queues_of rows ∙ moved_settings g.row.K _ c.user.result.now (use_alone c.zero-old.result) (use_alone c.resource-resource.result) x.tree.value in
    rw (← c.self.view_is) (reserved_is (record { rows = x.tree.value; limits = x.limits; apps = x.apps; nodes = x.nodes }) c.apply.new.self _ c.reserve.new.self settings c.in-Ok.ensures.ok)

pub unreachable-requires : goal.unreachable-requires
unreachable-requires g c =
    let q = c.args.proposal.now in
    let x = c.self.inside in
    let passes = rw (← c.self.view_is) at c.requires.passes in
    let there = its_app (flat_of (record { rows = x.tree.value; limits = x.limits; apps = x.apps; nodes = x.nodes })) q passes in
    app_again x.apps.table.active c.app-app.result q.app c.app-app.ensures c.in_default.ensures.found there

pub reserve-requires : goal.reserve-requires
reserve-requires g c = search (nodes_in_cluster, amounts_in_cluster)

pub resource-resource-requires : goal.resource-resource-requires
resource-resource-requires g c = search amounts_in_cluster
