use Rattle.cap_nodes.proofs.Sizes.{containers_fit}
use Rattle.cap_nodes.proofs.Changes.{rising_nodes}
use Rattle.cap_nodes.proofs.nodes.Nodes.numbers_rise.Goals as goal

pub returns-clause-nodes : goal.returns-clause-nodes
returns-clause-nodes g c = rw (← c.self.view_is) (rising_nodes c.self.inside.present.loads c.self.inside.present.next c.self.invariant.2)

pub returns-clause-containers : goal.returns-clause-containers
returns-clause-containers g c = rw (← c.self.view_is) c.numbers_rise.ensures

pub numbers_rise-requires : goal.numbers_rise-requires
numbers_rise-requires g c = search containers_fit
