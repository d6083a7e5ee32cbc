use Rattle.cap_nodes.proofs.Sizes.{containers_fit}
use Rattle.cap_nodes.proofs.nodes.Nodes.live_count.Goals as goal

pub count-requires : goal.count-requires
count-requires g c = search containers_fit
