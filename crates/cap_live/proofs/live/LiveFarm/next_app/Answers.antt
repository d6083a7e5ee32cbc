use Rattle.cap_live.proofs.Prelude.{◌∙◌, ap, sym, subst, Some, MatchOption, arith, ClusterState, HasNoWaiter, HasWaiter, IsNextWaiter, IsServed, app_sight, path_at}
use Rattle.cap_live.proofs.Apps.{held_at, no_next, some_next}
use Rattle.cap_commit.proofs.Sizes.{tree_fits}
use Rattle.cap_live.proofs.Sizes.{cluster_of_few}
use Rattle.cap_live.proofs.live.LiveFarm.next_app.Goals as goal

pub tree-tree-requires : goal.tree-tree-requires
tree-tree-requires g c = (cluster_of_few _ c.self.invariant, tree_fits _ c.self.invariant)

pub next_served-requires : goal.next_served-requires
next_served-requires g c =
    let t = c.tree-tree.ensures in
    let served = subst (λ (s : ClusterState g.row.K). IsServed s c.args.last.now) (sym c.self.view_is) c.requires.served in
    (tree_fits _ c.self.invariant, (omega arith, rw (t.rows, c.position.ensures, c.number.ensures) served))

pub returns-in_default-clause-next : goal.returns-in_default-clause-next
returns-in_default-clause-next g c =
    let t = c.tree-tree.ensures in
    let a = c.apps-apps.ensures in
    let has = (subst (λ (s : ClusterState g.row.K). HasWaiter s c.args.last.now) (sym c.self.view_is) c.requires.has) in
    let placed = held_at c.self.inside.cluster.now c.apps-apps.result.now a.table a.placed c.args.last.now has in
    let path_is = ap (λ p. path_at p c.self.inside.cluster.now.rows) c.position.ensures ∙ placed.path_is in
    rw (← c.self.view_is) (no_next c.self.inside.cluster.now t.queues t.tied t.waiting c.apps-apps.result.now a.table a.accounts a.placed c.numbers_rise.ensures c.tree-tree.result.now t.rows (Some (app_sight c.args.last.now.app)) (Some (c.position.result.now.items, c.number.result)) (path_is, c.number.ensures) (subst (λ o. MatchOption o (HasNoWaiter c.tree-tree.result.now (Some (c.position.result.now.items, c.number.result))) (IsNextWaiter c.tree-tree.result.now (Some (c.position.result.now.items, c.number.result)))) c.in_default.is c.next_served.ensures))

pub returns-clause-has : goal.returns-clause-has
returns-clause-has g c =
    let t = c.tree-tree.ensures in
    let a = c.apps-apps.ensures in
    let has = (subst (λ (s : ClusterState g.row.K). HasWaiter s c.args.last.now) (sym c.self.view_is) c.requires.has) in
    let placed = held_at c.self.inside.cluster.now c.apps-apps.result.now a.table a.placed c.args.last.now has in
    let path_is = ap (λ p. path_at p c.self.inside.cluster.now.rows) c.position.ensures ∙ placed.path_is in
    rw (← c.self.view_is) ((some_next c.self.inside.cluster.now t.queues t.tied t.waiting c.apps-apps.result.now a.table a.accounts a.placed c.numbers_rise.ensures c.tree-tree.result.now t.rows (Some (app_sight c.args.last.now.app)) (Some (c.position.result.now.items, c.number.result)) (path_is, c.number.ensures) c.in-Some.number (subst (λ o. MatchOption o (HasNoWaiter c.tree-tree.result.now (Some (c.position.result.now.items, c.number.result))) (IsNextWaiter c.tree-tree.result.now (Some (c.position.result.now.items, c.number.result)))) c.in-Some.is c.next_served.ensures) c.app.result c.app.ensures.found c.app.ensures.account a.impossible c.app.ensures.impossible).has)

pub returns-clause-served : goal.returns-clause-served
returns-clause-served g c =
    let t = c.tree-tree.ensures in
    let a = c.apps-apps.ensures in
    let has = (subst (λ (s : ClusterState g.row.K). HasWaiter s c.args.last.now) (sym c.self.view_is) c.requires.has) in
    let placed = held_at c.self.inside.cluster.now c.apps-apps.result.now a.table a.placed c.args.last.now has in
    let path_is = ap (λ p. path_at p c.self.inside.cluster.now.rows) c.position.ensures ∙ placed.path_is in
    rw (← c.self.view_is) ((some_next c.self.inside.cluster.now t.queues t.tied t.waiting c.apps-apps.result.now a.table a.accounts a.placed c.numbers_rise.ensures c.tree-tree.result.now t.rows (Some (app_sight c.args.last.now.app)) (Some (c.position.result.now.items, c.number.result)) (path_is, c.number.ensures) c.in-Some.number (subst (λ o. MatchOption o (HasNoWaiter c.tree-tree.result.now (Some (c.position.result.now.items, c.number.result))) (IsNextWaiter c.tree-tree.result.now (Some (c.position.result.now.items, c.number.result)))) c.in-Some.is c.next_served.ensures) c.app.result c.app.ensures.found c.app.ensures.account a.impossible c.app.ensures.impossible).served)

pub returns-clause-next : goal.returns-clause-next
returns-clause-next g c =
    let t = c.tree-tree.ensures in
    let a = c.apps-apps.ensures in
    let has = (subst (λ (s : ClusterState g.row.K). HasWaiter s c.args.last.now) (sym c.self.view_is) c.requires.has) in
    let placed = held_at c.self.inside.cluster.now c.apps-apps.result.now a.table a.placed c.args.last.now has in
    let path_is = ap (λ p. path_at p c.self.inside.cluster.now.rows) c.position.ensures ∙ placed.path_is in
    rw (← c.self.view_is) ((some_next c.self.inside.cluster.now t.queues t.tied t.waiting c.apps-apps.result.now a.table a.accounts a.placed c.numbers_rise.ensures c.tree-tree.result.now t.rows (Some (app_sight c.args.last.now.app)) (Some (c.position.result.now.items, c.number.result)) (path_is, c.number.ensures) c.in-Some.number (subst (λ o. MatchOption o (HasNoWaiter c.tree-tree.result.now (Some (c.position.result.now.items, c.number.result))) (IsNextWaiter c.tree-tree.result.now (Some (c.position.result.now.items, c.number.result)))) c.in-Some.is c.next_served.ensures) c.app.result c.app.ensures.found c.app.ensures.account a.impossible c.app.ensures.impossible).next)
