use Rattle.cap_shared.proofs.Following.{proposal_made_again}
use Rattle.cap_shared.proofs.deed.commit_again.Goals as goal

pub returns-in-Ok-clause-ok : goal.returns-in-Ok-clause-ok
returns-in-Ok-clause-ok c = proposal_made_again c.args.cluster.now.flat c.try_commit.new.self.flat c.args.proposal.now c.in-Ok._verdict c.in-Ok.ensures.ok
