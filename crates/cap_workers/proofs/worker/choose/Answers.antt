use Rattle.cap_workers.proofs.Turning.{chosen_on}
use Rattle.cap_workers.proofs.worker.choose.Goals as goal

pub returns : goal.returns
returns g c = chosen_on c.in-Ok.copied c.arrange-snapshot.result c.args.start c.arrange-snapshot.ensures.sight (rw c.in-Ok.is at c.copy-copied.ensures) c.propose_on.ensures
