use Rattle.cap_nodes.proofs.Sizes.{containers_fit}
use Rattle.cap_nodes.proofs.nodes.Nodes.next_container.Goals as goal

pub next-requires : goal.next-requires
next-requires g c = search containers_fit
