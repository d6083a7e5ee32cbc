use Rattle.cap_commit.proofs.Fitting.{in_cluster, nodes_in_cluster}
use Rattle.cap_commit.proofs.Prelude.{[], ◌∷◌, ◌++◌, refl, ap, sym, ◌∙◌, map, arith, queues_of, lowered_row, path_at, change_app, zero_count, use_alone, subst, UsesRoom, NodeTable}
use Rattle.cap_commit.proofs.Ending.{has_owner, some_live, may_give_back, held_ended, ended_is}
use Rattle.cap_commit.proofs.Holding.{placed_at, position_is}
use Rattle.cap_commit.proofs.Moving.{moved_settings}
use Rattle.cap_commit.proofs.Sizes.{tree_fits}
use Rattle.cap_commit.proofs.Followed.{follows_nodes, follows_rows, follows_table}
use Rattle.cap_commit.proofs.Waiting.{moved_keeps}
use Rattle.cap_commit.proofs.Reach.{no_more_wanted, nodes_same}
use Rattle.cap_commit.proofs.cluster.Cluster.end.Goals as goal

pub unreachable-requires : goal.unreachable-requires
unreachable-requires g c =
    let one = c.args.container.now in
    has_owner _ c.self.invariant.consistent one.number one (rw (← c.self.view_is) at c.requires) c.app.result c.app.ensures c.in_default.ensures.found

pub give_back-requires : goal.give_back-requires
give_back-requires g c =
    let one = c.args.container.now in
    let kinds = c.self.invariant.consistent.resources in
    let count = c.resource.ensures.vector.count in
    let position = c.position.ensures ∙ position_is _ c.self.invariant.consistent c.app.result c.in-Some.app.now c.in-Some.ensures.found c.in-Some.ensures.account in
    let owner = sym (rw c.app.ensures at c.in-Some.ensures.found) in (
      tree_fits _ c.self.invariant.consistent.resources,
      (
        omega arith,
        (
          omega (arith, kinds),
          rw (c.deref_mut-tree.ensures.value, c.user.ensures, c.resource.ensures.value, position)
              (may_give_back _ c.self.invariant.consistent one.number one (rw (← c.self.view_is) at c.requires) c.in-Some.app.now.app owner (omega (arith, count))),
        ),
      ),
    )

pub add_end-requires : goal.add_end-requires
add_end-requires g c =
    let one = c.args.container.now in
    (omega arith, rw c.app-3.ensures (some_live _ c.self.invariant.consistent one.number one (rw (← c.self.view_is) at c.requires)))

pub invariant_of-self : goal.invariant_of-self
invariant_of-self g c =
    let x = c.self.inside in
    let one = c.args.container.now in
    let app = c.in-Some.app.now.app in
    let count = c.resource.ensures.vector.count in
    let position = c.position.ensures ∙ position_is _ c.self.invariant.consistent c.app.result c.in-Some.app.now c.in-Some.ensures.found c.in-Some.ensures.account in
    let path = ap (λ q. path_at q x.tree.value) position ∙ (placed_at _ c.self.invariant.consistent c.app.result app (sym c.in-Some.ensures.found)).position.path_is in
    let rows = (rw c.deref_mut-tree.ensures.value at c.give_back.ensures) ∙ (λ i. map (lowered_row g.row.K (path i) (c.user.ensures i) (c.resource.ensures.value i)) x.tree.value) in
    let owner = sym (rw c.app.ensures at c.in-Some.ensures.found) in
    rw rows
    (record {
      consistent = held_ended _ c.self.invariant.consistent one.number one (rw (← c.self.view_is) at c.requires) app owner (omega (arith, count)) c.add_end.new.self c.lift.new.self c.app-3.result _ c.lift.ensures c.app-3.ensures c.add_end.ensures.table c.add_end.ensures.accounts;
      waiting =
          follows_nodes x.nodes.present c.lift.new.self.present c.add_end.new.self.table.active _ (λ wants. nodes_same x.nodes.present c.lift.new.self.present wants (ap (λ (t : NodeTable). t.present) c.lift.ensures))
          (follows_table c.app-3.result _ (record { number = λ a. refl; leaf = λ a. refl; user = λ a. refl }) (λ a. refl) (λ a. refl) x.apps.table c.add_end.new.self.table _ c.add_end.ensures.table
          (follows_rows _ (moved_keeps g.row.K app.leaf app.user (use_alone one.resource) (zero_count g.row.K)) x.apps.table.active x.tree.value c.self.invariant.waiting));
      impossible =
          nodes_same x.nodes.present c.lift.new.self.present c.add_end.new.self.impossible (ap (λ (t : NodeTable). t.present) c.lift.ensures)
          (no_more_wanted x.nodes.present x.apps.impossible c.add_end.new.self.impossible c.add_end.ensures.impossible c.self.invariant.impossible);
    })

pub returns-clause-ended : goal.returns-clause-ended
returns-clause-ended g c =
    let x = c.self.inside in
    let one = c.args.container.now in
    let rows = rw c.deref_mut-tree.ensures.value at c.give_back.ensures in
    let settings = ap queues_of rows ∙ moved_settings g.row.K _ c.user.result.now (use_alone c.resource.result) (zero_count g.row.K) x.tree.value in
    let told = c.add_end.ensures.table ∙ ap (λ n. change_app c.app-3.result (λ app. record app { ends = app.ends ++ record { container = n; cause = c.args.cause } ∷ [] }) x.apps.table) c.number.ensures in
    rw (← c.self.view_is)
    (ended_is _ c.self.invariant.consistent one.number one (rw (← c.self.view_is) at c.requires) c.args.cause c.give_back.new.self c.add_end.new.self.table c.lift.new.self c.app-3.result settings c.lift.ensures c.app-3.ensures told)

pub lift-requires : goal.lift-requires
lift-requires g c = (search nodes_in_cluster, ((search), rw (← c.self.view_is) at c.requires))

pub resource-requires : goal.resource-requires
resource-requires g c = search in_cluster

pub number-requires : goal.number-requires
number-requires g c = search in_cluster

pub app-requires-3 : goal.app-requires-3
app-requires-3 g c = search in_cluster

pub app-requires : goal.app-requires
app-requires g c = search in_cluster

pub returns-clause-room : goal.returns-clause-room
returns-clause-room g c = rw (← c.self.view_is) (subst (λ n. UsesRoom n 0 0 1 c.self.inside.apps.accounts c.add_end.new.self.accounts) c.app-3.ensures c.add_end.ensures.accounts)
