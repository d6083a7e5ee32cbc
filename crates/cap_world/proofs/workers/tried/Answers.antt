use Rattle.cap_world.proofs.Prelude.{sym, resources, sight_of, rejected_exactly}
use Rattle.cap_world.proofs.workers.tried.Goals as goal

pub returns-in-None-clause-admissible : goal.returns-in-None-clause-admissible
returns-in-None-clause-admissible c = (rejected_exactly resources (sight_of c.args.cluster.now.flat) c.args.proposal).0 (sym c.in-None.ensures)
