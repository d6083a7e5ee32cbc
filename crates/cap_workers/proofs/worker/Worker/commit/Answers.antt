use Rattle.cap_workers.proofs.Turning.{committed_by}
use Rattle.cap_workers.proofs.worker.Worker.commit.Goals as goal

pub returns : goal.returns
returns g c = rw c.end_of.ensures (committed_by c.args.proposal g.J.Naming.limit c.args.seat.now c.commit-answer.new.seat c.commit-answer.result c.commit-answer.ensures)
