use Rattle.cap_nodes.proofs.Sizes.{containers_fit}
use Rattle.cap_nodes.proofs.nodes.Nodes.next_of_app.Goals as goal

pub next_of_app-requires : goal.next_of_app-requires
next_of_app-requires g c = search containers_fit
