use Rattle.cap_live.proofs.Sizes.{cluster_of_few, nodes_of_few}
use Rattle.cap_live.proofs.live.LiveFarm.reservation.Goals as goal

pub nodes-requires : goal.nodes-requires
nodes-requires g c = (cluster_of_few _ c.self.invariant, nodes_of_few _ c.self.invariant)
