use Rattle.cap_commit.proofs.Prelude.{ap, ◌∙◌, arith, queues_of, path_at, state_in_settings}
use Rattle.cap_commit.proofs.Holding.{held_settings, with_queues}
use Rattle.cap_commit.proofs.Ties.{state_changes}
use Rattle.cap_commit.proofs.Sizes.{tree_fits}
use Rattle.cap_commit.proofs.Followed.{follows_rows}
use Rattle.cap_commit.proofs.Waiting.{state_keeps}
use Rattle.cap_commit.proofs.cluster.Cluster.set_state.Goals as goal

pub invariant_of-self : goal.invariant_of-self
invariant_of-self g c =
    let now = rw c.deref_mut-tree.ensures.value at c.set_state.ensures in
    rw now
    (record {
      consistent = held_settings _ c.self.invariant.consistent _ _ c.self.inside.limits (state_changes (path_at c.args.position.now.items c.self.inside.tree.value) c.args.running) c.self.invariant.consistent.limit;
      waiting = follows_rows _ (state_keeps (path_at c.args.position.now.items c.self.inside.tree.value) c.args.running) c.self.inside.apps.table.active c.self.inside.tree.value c.self.invariant.waiting;
      impossible = c.self.invariant.impossible;
    })

pub returns-clause-flat : goal.returns-clause-flat
returns-clause-flat g c =
    let x = c.self.inside in
    let now = rw c.deref_mut-tree.ensures.value at c.set_state.ensures in
    rw (← c.self.view_is) (with_queues (record { rows = x.tree.value; limits = x.limits; apps = x.apps; nodes = x.nodes }) _ _ (ap queues_of now ∙ state_in_settings (path_at c.args.position.now.items x.tree.value) c.args.running x.tree.value))

pub set_state-requires : goal.set_state-requires
set_state-requires g c = (tree_fits _ c.self.invariant.consistent.resources, (omega arith, rw (c.deref_mut-tree.ensures.value) (rw (← c.self.view_is) at c.requires)))
