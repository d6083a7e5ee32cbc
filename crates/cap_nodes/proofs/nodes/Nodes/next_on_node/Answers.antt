use Rattle.cap_nodes.proofs.Sizes.{containers_fit}
use Rattle.cap_nodes.proofs.nodes.Nodes.next_on_node.Goals as goal

pub next_on_node-requires : goal.next_on_node-requires
next_on_node-requires g c = search containers_fit
