use Rattle.cap_nodes.proofs.Sizes.{present_fits}
use Rattle.cap_nodes.proofs.nodes.Nodes.next_node.Goals as goal

pub next-requires : goal.next-requires
next-requires g c = search present_fits
