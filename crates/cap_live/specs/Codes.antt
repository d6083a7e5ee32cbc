-- How a cluster, as contracts see it, is stored.
use Rattle.std.specs.Prelude.{ℕ}
use Rattle.std.specs.Coded.{Coded, codes}
use Rattle.cap_tree.specs.Queue.{users_code}
use Rattle.cap_commit.specs.ClusterState.{ClusterState}

pub cluster_code : (K : ℕ) → Coded (ClusterState K)
cluster_code K = hlevel (codes, users_code)
