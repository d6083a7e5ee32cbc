use Rattle.cap_commit.proofs.Granted.{app_again}
use Rattle.std.proofs.Common.{refl}
use Rattle.cap_commit.proofs.cluster.Cluster.room_for_grant.Goals as goal

pub unreachable-requires : goal.unreachable-requires
unreachable-requires g c = app_again c.self.inside.apps.table.active c.args.number c.args.number refl c.in_default.ensures.found (rw (← c.self.view_is) at c.requires)
