use Rattle.cap_workers.proofs.committing.commit_next.Goals as goal

pub returns-clause-next : goal.returns-clause-next
returns-clause-next g c = (c.in_ok-worker.proposal, c.commit-answer.result, c.in_ok-worker.ensures.some.0, c.commit-answer.ensures, c.of-outcome.ensures)
