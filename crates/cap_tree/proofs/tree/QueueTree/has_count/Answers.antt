use Rattle.std.proofs.Common.{length}
use Rattle.cap_tree.proofs.Counting.{more_there, none_left}
use Rattle.cap_tree.proofs.Sizes.{queue_fits}
use Rattle.cap_tree.proofs.tree.QueueTree.has_count.Goals as goal

pub returns-in_default-clause-is : goal.returns-in_default-clause-is
returns-in_default-clause-is g c = rw (← c.self.view_is) (more_there (length c.self.inside.root) c.args.count c.in_default.ensures)

pub returns-clause-is : goal.returns-clause-is
returns-clause-is g c = rw (← c.self.view_is) (none_left c.in-Some.left (length c.self.inside.root) c.args.count c.in-Some.ensures)

pub returns-in_default-clause-rows : goal.returns-in_default-clause-rows
returns-in_default-clause-rows g c = rw (← c.self.view_is) c.self.invariant.rows_are

pub returns-clause-rows : goal.returns-clause-rows
returns-clause-rows g c = rw (← c.self.view_is) c.self.invariant.rows_are

pub count_down-requires-room-T-Destruct : goal.count_down-requires-room-T-Destruct
count_down-requires-room-T-Destruct g c κs within = search queue_fits

pub count_down-requires-room-T-TreeItem : goal.count_down-requires-room-T-TreeItem
count_down-requires-room-T-TreeItem g c κs within = search queue_fits
