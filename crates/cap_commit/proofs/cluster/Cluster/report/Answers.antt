use Rattle.std.proofs.Common.{sym, arith}
use Rattle.cap_commit.proofs.Reporting.{is_there, seen_few, reported}
use Rattle.cap_commit.proofs.Sizes.{queue_fits, report_fits, tree_fits}
use Rattle.cap_commit.proofs.cluster.Cluster.report.Goals as goal

pub report_of-requires : goal.report_of-requires
report_of-requires g c =
    let k = c.self.invariant.consistent.resources in
    (queue_fits _ k, (report_fits _ k, seen_few _ c.args.path.now c.in-Leaf.position.items (rw (c.deref-tree.ensures) at c.find.ensures.rows) (rw (c.deref-tree.ensures) at c.in-Leaf.ensures.found.0) c.self.invariant.consistent c.row.result.now (rw (c.deref-tree.ensures) at c.row.ensures)))

pub report_of-requires-in-Parent : goal.report_of-requires-in-Parent
report_of-requires-in-Parent g c =
    let k = c.self.invariant.consistent.resources in
    (queue_fits _ k, (report_fits _ k, seen_few _ c.args.path.now c.in-Parent.position.items (rw (c.deref-tree.ensures) at c.find.ensures.rows) (rw (c.deref-tree.ensures) at c.in-Parent.ensures.found.0) c.self.invariant.consistent c.row-in-Parent.result.now (rw (c.deref-tree.ensures) at c.row-in-Parent.ensures)))

pub returns-in-Leaf-clause-found : goal.returns-in-Leaf-clause-found
returns-in-Leaf-clause-found g c = rw (← c.self.view_is) (sym (is_there _ c.args.path.now c.in-Leaf.position.items (rw (c.deref-tree.ensures) at c.find.ensures.rows) (rw (c.deref-tree.ensures) at c.in-Leaf.ensures.found.0) c.self.invariant.consistent))

pub returns-in-Leaf-clause-report : goal.returns-in-Leaf-clause-report
returns-in-Leaf-clause-report g c =
    rw (← c.self.view_is)
    (reported _ c.args.path.now c.in-Leaf.position.items (rw (c.deref-tree.ensures) at c.find.ensures.rows) (rw (c.deref-tree.ensures) at c.in-Leaf.ensures.found.0) c.self.invariant.consistent c.row.result.now _ _ c.report_of.result (rw (c.deref-tree.ensures) at c.row.ensures) (rw (c.deref-tree.ensures) at c.running-running.ensures) (rw (c.deref-tree.ensures) at c.in-Leaf.ensures.found.1) c.report_of.ensures)

pub returns-in-Parent-clause-found : goal.returns-in-Parent-clause-found
returns-in-Parent-clause-found g c = rw (← c.self.view_is) (sym (is_there _ c.args.path.now c.in-Parent.position.items (rw (c.deref-tree.ensures) at c.find.ensures.rows) (rw (c.deref-tree.ensures) at c.in-Parent.ensures.found.0) c.self.invariant.consistent))

pub returns-in-Parent-clause-report : goal.returns-in-Parent-clause-report
returns-in-Parent-clause-report g c =
    rw (← c.self.view_is)
    (reported _ c.args.path.now c.in-Parent.position.items (rw (c.deref-tree.ensures) at c.find.ensures.rows) (rw (c.deref-tree.ensures) at c.in-Parent.ensures.found.0) c.self.invariant.consistent c.row-in-Parent.result.now _ _ c.report_of-in-Parent.result (rw (c.deref-tree.ensures) at c.row-in-Parent.ensures) (rw (c.deref-tree.ensures) at c.running-running-in-Parent.ensures)
    (rw (c.deref-tree.ensures) at c.in-Parent.ensures.found.1) c.report_of-in-Parent.ensures)

pub find-requires : goal.find-requires
find-requires g c = tree_fits _ c.self.invariant.consistent.resources

pub running-running-requires : goal.running-running-requires
running-running-requires g c = (tree_fits _ c.self.invariant.consistent.resources, (omega arith, c.in-Leaf.ensures.found.0.present))

pub row-requires : goal.row-requires
row-requires g c = let k = c.self.invariant.consistent.resources in (tree_fits _ k, (omega arith, (queue_fits _ k, c.in-Leaf.ensures.found.0.present)))

pub running-running-requires-in-Parent : goal.running-running-requires-in-Parent
running-running-requires-in-Parent g c = (tree_fits _ c.self.invariant.consistent.resources, (omega arith, c.in-Parent.ensures.found.0.present))

pub row-requires-in-Parent : goal.row-requires-in-Parent
row-requires-in-Parent g c = let k = c.self.invariant.consistent.resources in (tree_fits _ k, (omega arith, (queue_fits _ k, c.in-Parent.ensures.found.0.present)))
