use Rattle.cap_workers.proofs.Commits.{committing_more}
use Rattle.cap_workers.specs.Committing.{held_in}
use Rattle.cap_workers.proofs.committer.LaneCommitter.commit_waiting.Goals as goal

pub invariant_of-self : goal.invariant_of-self
invariant_of-self g c =
    committing_more g.J.LaneNaming.lanes g.J.Naming.limit c.self.inside.committer c.commit_waiting.new.committer c.self.inside.seat c.commit_waiting.new.seat c.self.inside.posted c.commit_waiting.new.posted (held_in c.commit_waiting.result) c.self.invariant c.commit_waiting.ensures.lanes c.commit_waiting.ensures.taken c.commit_waiting.ensures.posted
