use Rattle.cap_live.proofs.Prelude.{◌∙◌, ap, sym, subst, arith, is_none, ClusterState, HasWaiter, over_limit}
use Rattle.cap_commit.proofs.Sizes.{tree_fits}
use Rattle.cap_live.proofs.Apps.{held_at}
use Rattle.cap_live.proofs.Limits.{limits_are}
use Rattle.cap_live.proofs.Sizes.{cluster_of_few}
use Rattle.cap_live.proofs.live.LiveFarm.stays_within.Goals as goal

pub tree-tree-requires : goal.tree-tree-requires
tree-tree-requires g c = (cluster_of_few _ c.self.invariant, tree_fits _ c.self.invariant)

pub accept-requires : goal.accept-requires
accept-requires g c =
    let s = c.self.inside.cluster.now in
    let at = held_at s c.apps.result.now c.apps.ensures.table c.apps.ensures.placed c.args.of.now (subst (λ (x : ClusterState g.row.K). HasWaiter x c.args.of.now) (sym c.self.view_is) c.requires) in
    let few = c.self.invariant in
    (tree_fits _ few, (omega (arith, few), (omega (arith, few), rw (c.tree-tree.ensures.rows, c.position.ensures) at.present)))

pub returns-in-Ok : goal.returns-in-Ok
returns-in-Ok g c =
    let s = c.self.inside.cluster.now in
    let t = c.tree-tree.ensures in
    let at = held_at s c.apps.result.now c.apps.ensures.table c.apps.ensures.placed c.args.of.now (subst (λ (x : ClusterState g.row.K). HasWaiter x c.args.of.now) (sym c.self.view_is) c.requires) in
    let over = ap is_none ((λ i. over_limit g.row.K (sym c.position.ensures i) (sym c.user.ensures i) c.args.old.now c.args.new.now (sym t.rows i)) ∙ c.in-Ok.ensures.ok) in
    rw (← c.self.view_is) (sym (limits_are s.flat s.rows t.queues t.tied (rw (← t.rows) c.in-Ok.ensures.rows) c.args.of.now.app c.args.of.now.account.position at c.args.old.now c.args.new.now ∙ over))

pub returns-in-Err : goal.returns-in-Err
returns-in-Err g c =
    let s = c.self.inside.cluster.now in
    let t = c.tree-tree.ensures in
    let at = held_at s c.apps.result.now c.apps.ensures.table c.apps.ensures.placed c.args.of.now (subst (λ (x : ClusterState g.row.K). HasWaiter x c.args.of.now) (sym c.self.view_is) c.requires) in
    let over = ap is_none ((λ i. over_limit g.row.K (sym c.position.ensures i) (sym c.user.ensures i) c.args.old.now c.args.new.now (sym t.rows i)) ∙ c.in-Err.ensures.err) in
    rw (← c.self.view_is) (sym (limits_are s.flat s.rows t.queues t.tied (rw (← t.rows) c.in-Err.ensures.rows) c.args.of.now.app c.args.of.now.account.position at c.args.old.now c.args.new.now ∙ over))
