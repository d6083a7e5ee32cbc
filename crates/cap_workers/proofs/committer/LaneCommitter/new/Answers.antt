use Rattle.cap_workers.proofs.Commits.{committing_none}
use Rattle.cap_workers.proofs.committer.LaneCommitter.new.Goals as goal

pub invariant_of-result : goal.invariant_of-result
invariant_of-result g c = committing_none g.J.LaneNaming.lanes g.J.Naming.limit c.args.committer c.args.seat c.new.result c.requires.lanes c.requires.taken c.requires.fresh c.new.ensures
