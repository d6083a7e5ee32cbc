use Rattle.cap_nodes.proofs.Holding.{left_in}
use Rattle.cap_nodes.proofs.nodes.Nodes.free_of.Goals as goal

pub returns-in-Some : goal.returns-in-Some
returns-in-Some g c = left_in g.row.K c.args.number c.args.self.now c.in-Some.load.now c.free.result c.in-Some.ensures.node c.in-Some.ensures.load c.free.ensures
