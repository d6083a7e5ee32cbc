use Rattle.cap_commit.proofs.Fitting.{nodes_in_cluster}
use Rattle.cap_commit.proofs.Prelude.{ap, refl, NodeTable, reserved_changed}
use Rattle.cap_commit.proofs.Holding.{held_nodes}
use Rattle.cap_commit.proofs.Followed.{follows_nodes}
use Rattle.cap_commit.proofs.Reach.{node_changed}
use Rattle.cap_commit.proofs.cluster.Cluster.beat.Goals as goal

pub beat-requires : goal.beat-requires
beat-requires g c = (search nodes_in_cluster, rw (← c.self.view_is) at c.requires)

pub invariant_of-self : goal.invariant_of-self
invariant_of-self g c =
    record {
      consistent =
          held_nodes _ c.self.invariant.consistent c.beat.new.self (ap (λ (t : NodeTable). t.live) c.beat.ensures.table) (ap (λ (t : NodeTable). t.reserved) c.beat.ensures.table) (ap (λ (t : NodeTable). t.next_container) c.beat.ensures.table)
          (reserved_changed c.args.number _ (λ x. refl) (λ x. refl) c.self.inside.nodes c.beat.new.self c.beat.ensures.table c.self.invariant.consistent.reservations);
      waiting = follows_nodes c.self.inside.nodes.present c.beat.new.self.present c.self.inside.apps.table.active c.self.inside.tree.value (λ wants. node_changed c.args.number _ (λ place resource x. refl) c.self.inside.nodes c.beat.new.self wants c.beat.ensures.table) c.self.invariant.waiting;
      impossible = node_changed c.args.number _ (λ place resource x. refl) c.self.inside.nodes c.beat.new.self c.self.inside.apps.impossible c.beat.ensures.table c.self.invariant.impossible;
    }
