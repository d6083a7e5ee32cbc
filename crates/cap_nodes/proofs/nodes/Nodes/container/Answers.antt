use Rattle.cap_nodes.proofs.Sizes.{containers_fit}
use Rattle.cap_nodes.proofs.ByNumber.{found_by_its_own}
use Rattle.cap_nodes.proofs.Changes.{homes_all}
use Rattle.cap_nodes.proofs.nodes.Nodes.container.Goals as goal

pub returns-clause-homes : goal.returns-clause-homes
returns-clause-homes g c = rw (← c.self.view_is) (homes_all g.row.K c.self.inside.present.loads c.self.inside.live.containers c.self.invariant.0)

pub returns-clause-own : goal.returns-clause-own
returns-clause-own g c = rw (← c.self.view_is) (found_by_its_own c.self.inside.live.containers c.args.number c.get.result c.get.ensures)

pub get-requires : goal.get-requires
get-requires g c = search containers_fit
