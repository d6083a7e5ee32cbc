use Rattle.cap_commit.proofs.Prelude.{ap, ◌∙◌, queues_of, Limits}
use Rattle.cap_commit.proofs.Holding.{held_settings, with_queues}
use Rattle.cap_commit.proofs.Ties.{rows_change}
use Rattle.cap_commit.proofs.Fitting.{in_cluster}
use Rattle.cap_commit.proofs.Followed.{follows_rows}
use Rattle.cap_commit.proofs.Waiting.{rows_keep}
use Rattle.cap_commit.proofs.Sizes.{tree_fits}
use Rattle.cap_commit.proofs.cluster.Cluster.set_settings.Goals as goal

pub invariant_of-self : goal.invariant_of-self
invariant_of-self g c =
    let now = rw c.deref_mut-tree.ensures.value at c.set_limits.ensures in
    rw now
    (record {
      consistent = held_settings _ c.self.invariant.consistent _ _ c.limits_of-self-inside.result (rows_change c.args.config.now.queues) c.limits_of-self-inside.ensures.few;
      waiting = follows_rows _ (rows_keep c.args.config.now.queues) c.self.inside.apps.table.active c.self.inside.tree.value c.self.invariant.waiting;
      impossible = c.self.invariant.impossible;
    })

pub returns-clause-flat : goal.returns-clause-flat
returns-clause-flat g c =
    let x = c.self.inside in
    let config = c.args.config.now in
    let now = rw c.deref_mut-tree.ensures.value at c.set_limits.ensures in
    let limits : Limits g.row.K = record { minimum_allocation = config.minimum_allocation; maximum_allocation = config.maximum_allocation; application_limit = config.application_limit } in
    rw (← c.self.view_is, c.limits_of-self-inside.ensures.value)
    (with_queues (record { rows = x.tree.value; limits = limits; apps = x.apps; nodes = x.nodes }) _ _ (ap queues_of now ∙ (rows_change config.queues).queues x.tree.value))

pub limits_of-self-inside-requires : goal.limits_of-self-inside-requires
limits_of-self-inside-requires g c = search in_cluster

pub set_limits-requires : goal.set_limits-requires
set_limits-requires g c = (tree_fits _ c.self.invariant.consistent.resources, (search in_cluster, rw (c.deref_mut-tree.ensures.value) (rw (← c.self.view_is) at c.requires)))
