use Rattle.cap_workers.proofs.Following.{committed_follows}
use Rattle.cap_workers.proofs.follower.Follower.commit.Goals as goal

pub invariant_of-self : goal.invariant_of-self
invariant_of-self g c =
    committed_follows c.self.inside.replica.log c.args.proposal g.J.Naming.limit c.self.inside.seat c.commit.new.seat c.commit.result c.commit.ensures c.self.invariant
