use Rattle.cap_nodes.proofs.Pairs.{fewer}
use Rattle.cap_nodes.proofs.owners.Owners.remove.Goals as goal

pub returns : goal.returns
returns c o n = rw (← c.self.view_is) (fewer c.args.owner c.args.number o n _ _ (c.remove.ensures.updates.0 (o, n)))
