use Rattle.cap_masters.proofs.Prelude.{tree_fits, limits_in_cluster, apps_fit, ap, sym, ◌∙◌, length, arith, AppTable, queues_of}
use Rattle.cap_masters.proofs.Submitting.{is_parent, is_stopped, is_full, is_spent, is_free}
use Rattle.cap_masters.proofs.submission.admit.Goals as goal

pub returns-in-Parent-clause-err : goal.returns-in-Parent-clause-err
returns-in-Parent-clause-err g c =
    let rows = c.tree-tree.result.now in
    let queues = ap queues_of c.tree-tree.ensures.rows ∙ c.tree-tree.ensures.queues in
    rw c.as_bytes.ensures.value at (is_parent c.args.cluster.now.flat rows c.as_bytes.result.now c.in-Parent.field-0.items queues c.in-Parent.ensures.found.0 c.in-Parent.ensures.found.1)

pub returns-then-not-running-clause-err : goal.returns-then-not-running-clause-err
returns-then-not-running-clause-err g c =
    let rows = c.tree-tree.result.now in
    let queues = ap queues_of c.tree-tree.ensures.rows ∙ c.tree-tree.ensures.queues in
    rw c.as_bytes.ensures.value at (is_stopped c.args.cluster.now.flat rows c.as_bytes.result.now c.in-Leaf.position.items queues c.in-Leaf.ensures.found.0 c.in-Leaf.ensures.found.1 (sym c.running.ensures ∙ c.if-not-running.true))

pub returns-then-settings-count-clause-err : goal.returns-then-settings-count-clause-err
returns-then-settings-count-clause-err g c =
    let rows = c.tree-tree.result.now in
    let queues = ap queues_of c.tree-tree.ensures.rows ∙ c.tree-tree.ensures.queues in
    let count = c.count.ensures ∙ ap (λ (t : AppTable). length t.active) c.apps-apps.ensures.table in
    let limit = c.settings.ensures.apps in
    let full = c.if-settings-count.true in
    rw c.as_bytes.ensures.value at (is_full c.args.cluster.now.flat rows c.as_bytes.result.now c.in-Leaf.position.items queues c.in-Leaf.ensures.found.0 c.in-Leaf.ensures.found.1 (sym c.running.ensures ∙ c.if-not-running.false) (omega (arith, count, limit, full)))

pub returns-then-next-ge-NUMBER_END-clause-err : goal.returns-then-next-ge-NUMBER_END-clause-err
returns-then-next-ge-NUMBER_END-clause-err g c =
    let rows = c.tree-tree.result.now in
    let queues = ap queues_of c.tree-tree.ensures.rows ∙ c.tree-tree.ensures.queues in
    let count = c.count.ensures ∙ ap (λ (t : AppTable). length t.active) c.apps-apps.ensures.table in
    let limit = c.settings.ensures.apps in
    let room = c.if-settings-count.false in
    let next = c.next.ensures ∙ ap (λ (t : AppTable). t.next) c.apps-apps.ensures.table in
    let spent = c.if-next-ge-NUMBER_END.true in
    rw c.as_bytes.ensures.value at (is_spent c.args.cluster.now.flat rows c.as_bytes.result.now c.in-Leaf.position.items queues c.in-Leaf.ensures.found.0 c.in-Leaf.ensures.found.1 (sym c.running.ensures ∙ c.if-not-running.false) (omega (arith, count, limit, room)) (omega (arith, next, spent)))

pub returns-clause-ok : goal.returns-clause-ok
returns-clause-ok g c =
    let rows = c.tree-tree.result.now in
    let queues = ap queues_of c.tree-tree.ensures.rows ∙ c.tree-tree.ensures.queues in
    let count = c.count.ensures ∙ ap (λ (t : AppTable). length t.active) c.apps-apps.ensures.table in
    let limit = c.settings.ensures.apps in
    let room = c.if-settings-count.false in
    let next = c.next.ensures ∙ ap (λ (t : AppTable). t.next) c.apps-apps.ensures.table in
    let left = c.if-next-ge-NUMBER_END.false in
    rw c.as_bytes.ensures.value at (is_free c.args.cluster.now.flat rows c.as_bytes.result.now c.in-Leaf.position.items queues c.in-Leaf.ensures.found.0 c.in-Leaf.ensures.found.1 (sym c.running.ensures ∙ c.if-not-running.false) (omega (arith, count, limit, room)) (omega (arith, next, left)))

pub settings-requires : goal.settings-requires
settings-requires g c = search limits_in_cluster

pub apps-apps-requires : goal.apps-apps-requires
apps-apps-requires g c = search apps_fit

pub find-requires : goal.find-requires
find-requires g c = tree_fits _ c.tree-tree.ensures.resources

pub tree-tree-requires : goal.tree-tree-requires
tree-tree-requires g c = (search, tree_fits _ c.apps-apps.ensures.resources)

pub running-requires : goal.running-requires
running-requires g c = (tree_fits _ c.tree-tree.ensures.resources, (omega arith, c.in-Leaf.ensures.found.0.present))
