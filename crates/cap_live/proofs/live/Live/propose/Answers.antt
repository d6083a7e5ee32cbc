use Rattle.cap_live.proofs.Prelude.{arith}
use Rattle.cap_vector.specs.Vector.{amount_max}
use Rattle.cap_live.proofs.Sizes.{cluster_of_few, nodes_of_few, amounts_of_few, ask_of_few, proposal_of_few}
use Rattle.cap_live.proofs.live.Live.propose.Goals as goal

pub propose_on-requires : goal.propose_on-requires
propose_on-requires g c =
    let few = c.nodes.ensures.resources in
    (proposal_of_few _ few, (omega arith, ask_of_few _ few, amounts_of_few _ few amount_max, proposal_of_few _ few))

pub nodes-requires : goal.nodes-requires
nodes-requires g c = (cluster_of_few _ c.self.invariant, nodes_of_few _ c.self.invariant)
