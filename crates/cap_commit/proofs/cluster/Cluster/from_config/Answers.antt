use Rattle.cap_commit.proofs.Fitting.{in_cluster, nodes_in_cluster}
use Rattle.cap_commit.proofs.Prelude.{ap, arith, AppTable, NodeTable}
use Rattle.cap_commit.proofs.Holding.{held_opened}
use Rattle.cap_commit.proofs.Sizes.{queue_fits, tree_fits}
use Rattle.cap_commit.proofs.Followed.{follows_opened}
use Rattle.cap_commit.proofs.Reach.{none_wanted}
use Rattle.cap_commit.proofs.cluster.Cluster.from_config.Goals as goal

pub from_config-requires : goal.from_config-requires
from_config-requires g c = let k = c.limits_of-limits.ensures.resources in (omega (arith, k), (tree_fits _ k, record { path = omega (arith, k); queue = queue_fits _ k }))

pub invariant_of-result : goal.invariant_of-result
invariant_of-result g c =
    let first = ap (λ (t : NodeTable). t.next_container) c.new-3.ensures in
    rw (c.in-Ok-new.ensures.ok)
    (record {
      consistent =
          (held_opened _ (ap (λ (t : AppTable). t.active) c.new-2.ensures.table) c.new-2.ensures.accounts (ap (λ (t : NodeTable). t.live) c.new-3.ensures) (ap (λ (t : NodeTable). t.reserved) c.new-3.ensures) (omega (arith, first))
          c.in-Ok.ensures.unused c.limits_of-limits.ensures.few c.limits_of-limits.ensures.resources);
      waiting = follows_opened g.row.K _ _ _ (ap (λ (t : AppTable). t.active) c.new-2.ensures.table) c.in-Ok.ensures.unused;
      impossible = none_wanted _ _ c.new-2.ensures.impossible;
    })

pub new-requires-3 : goal.new-requires-3
new-requires-3 g c = search nodes_in_cluster

pub limits_of-limits-requires : goal.limits_of-limits-requires
limits_of-limits-requires g c = search in_cluster
