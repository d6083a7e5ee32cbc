use Rattle.cap_commit.proofs.Holding.{held_room}
use Rattle.cap_commit.proofs.Followed.{follows_same_table}
use Rattle.cap_commit.proofs.Reach.{no_more_wanted}
use Rattle.cap_commit.proofs.cluster.Cluster.room.Goals as goal

pub invariant_of-self : goal.invariant_of-self
invariant_of-self g c = record {
  consistent = held_room _ c.self.invariant.consistent c.args.number c.room.new.self c.room.ensures.table c.room.ensures.stays;
  waiting = follows_same_table c.self.inside.apps.table c.room.new.self.table _ c.room.ensures.table c.self.invariant.waiting;
  impossible = no_more_wanted c.self.inside.nodes.present c.self.inside.apps.impossible c.room.new.self.impossible c.room.ensures.impossible c.self.invariant.impossible;
}
