use Rattle.cap_commit.proofs.Sizes.{tree_fits}
use Rattle.cap_commit.proofs.cluster.Cluster.drop.Goals as goal

pub drop-self-inside-requires-room-T-Destruct : goal.drop-self-inside-requires-room-T-Destruct
drop-self-inside-requires-room-T-Destruct g c = λ κs. tree_fits _ c.self.invariant.consistent.resources
