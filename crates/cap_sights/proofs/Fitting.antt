-- A cluster is no larger than memory, where there are not too many kinds of resource.
use Rattle.std.proofs.Common.{ℕ, ◌≤◌, arith}
use Rattle.std.specs.Mem.{FitsInMemory}
use denote.Param.{layout, number, param}
use Rattle.cap_base.specs.Limits.{resources_max}
use Rattle.cap_nodes.proofs.Most.{fits_by_most}
use Rattle.cap_commit.specs.contracts.cluster.Cluster as cluster

pub cluster_of_few : (n : ℕ) → n ≤ resources_max → FitsInMemory (cluster.the_row (param 0 (number n)))
cluster_of_few n few = fits_by_most (layout (cluster.the_row (param 0 (number n)))) (omega (arith, few))
