use Rattle.std.proofs.Common.{arith}
use Rattle.cap_commit.proofs.Reporting.{root_used}
use Rattle.cap_commit.proofs.Sizes.{tree_fits}
use Rattle.cap_commit.proofs.cluster.Cluster.root_use.Goals as goal

pub returns : goal.returns
returns g c = rw (← c.self.view_is) (root_used _ (rw (c.deref-tree.ensures) at c.used.ensures.rows) c.self.invariant.consistent c.used.result (rw (c.deref-tree.ensures) at c.used.ensures.all))

pub used-requires : goal.used-requires
used-requires g c = let k = c.self.invariant.consistent.resources in (tree_fits _ k, omega (arith, k))
