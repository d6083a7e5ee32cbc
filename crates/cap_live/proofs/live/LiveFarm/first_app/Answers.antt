use Rattle.cap_live.proofs.Prelude.{subst, None, MatchOption, HasNoWaiter, IsNextWaiter}
use Rattle.cap_live.proofs.Apps.{no_next, some_next}
use Rattle.cap_commit.proofs.Sizes.{tree_fits}
use Rattle.cap_live.proofs.Sizes.{cluster_of_few}
use Rattle.cap_live.proofs.live.LiveFarm.first_app.Goals as goal

pub tree-tree-requires : goal.tree-tree-requires
tree-tree-requires g c = (cluster_of_few _ c.self.invariant, tree_fits _ c.self.invariant)

pub returns-in_default-clause-first : goal.returns-in_default-clause-first
returns-in_default-clause-first g c =
    let t = c.tree-tree.ensures in
    let a = c.apps-apps.ensures in
    rw (← c.self.view_is)
    (no_next c.self.inside.cluster.now t.queues t.tied t.waiting c.apps-apps.result.now a.table a.accounts a.placed c.numbers_rise.ensures c.tree-tree.result.now t.rows None None tt
    (subst (λ o. MatchOption o (HasNoWaiter c.tree-tree.result.now None) (IsNextWaiter c.tree-tree.result.now None)) c.in_default.is c.first_served.ensures))

pub returns-clause-has : goal.returns-clause-has
returns-clause-has g c =
    let t = c.tree-tree.ensures in
    let a = c.apps-apps.ensures in
    rw (← c.self.view_is)
    ((some_next c.self.inside.cluster.now t.queues t.tied t.waiting c.apps-apps.result.now a.table a.accounts a.placed c.numbers_rise.ensures c.tree-tree.result.now t.rows None None tt c.in-Some.number
    (subst (λ o. MatchOption o (HasNoWaiter c.tree-tree.result.now None) (IsNextWaiter c.tree-tree.result.now None)) c.in-Some.is c.first_served.ensures) c.app.result c.app.ensures.found c.app.ensures.account a.impossible c.app.ensures.impossible).has)

pub returns-clause-served : goal.returns-clause-served
returns-clause-served g c =
    let t = c.tree-tree.ensures in
    let a = c.apps-apps.ensures in
    rw (← c.self.view_is)
    ((some_next c.self.inside.cluster.now t.queues t.tied t.waiting c.apps-apps.result.now a.table a.accounts a.placed c.numbers_rise.ensures c.tree-tree.result.now t.rows None None tt c.in-Some.number
    (subst (λ o. MatchOption o (HasNoWaiter c.tree-tree.result.now None) (IsNextWaiter c.tree-tree.result.now None)) c.in-Some.is c.first_served.ensures) c.app.result c.app.ensures.found c.app.ensures.account a.impossible c.app.ensures.impossible).served)

pub returns-clause-first : goal.returns-clause-first
returns-clause-first g c =
    let t = c.tree-tree.ensures in
    let a = c.apps-apps.ensures in
    rw (← c.self.view_is)
    ((some_next c.self.inside.cluster.now t.queues t.tied t.waiting c.apps-apps.result.now a.table a.accounts a.placed c.numbers_rise.ensures c.tree-tree.result.now t.rows None None tt c.in-Some.number
    (subst (λ o. MatchOption o (HasNoWaiter c.tree-tree.result.now None) (IsNextWaiter c.tree-tree.result.now None)) c.in-Some.is c.first_served.ensures) c.app.result c.app.ensures.found c.app.ensures.account a.impossible c.app.ensures.impossible).next)

pub first_served-requires : goal.first_served-requires
first_served-requires g c = tree_fits _ c.self.invariant
