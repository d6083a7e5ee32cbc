use Rattle.cap_nodes.proofs.Pairs.{more}
use Rattle.cap_nodes.proofs.owners.Owners.insert.Goals as goal

pub returns-clause-ok : goal.returns-clause-ok
returns-clause-ok c o n = rw (← c.self.view_is) (more c.args.owner c.args.number o n _ _ (c.in-Ok.ensures.updates.0 (o, n)))
