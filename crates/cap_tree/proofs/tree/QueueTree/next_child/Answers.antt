use Rattle.cap_tree.proofs.ServiceRows.{next_rows}
use Rattle.cap_tree.proofs.Sizes.{queue_fits}
use Rattle.cap_tree.proofs.tree.QueueTree.next_child.Goals as goal

pub returns : goal.returns
returns g c =
    rw (← c.self.view_is, ← c.as_slice.ensures)
    (next_rows c.as_slice.result.now c.self.inside.root c.args.after c.next_child.result c.self.invariant.rows_are c.next_child.ensures)

pub next_child-requires-clause-after : goal.next_child-requires-clause-after
next_child-requires-clause-after g c = rw (← c.self.view_is, ← c.as_slice.ensures) at c.requires.after

pub next_child-requires-room-T-Destruct : goal.next_child-requires-room-T-Destruct
next_child-requires-room-T-Destruct g c κs within = search queue_fits

pub next_child-requires-room-T-TreeItem : goal.next_child-requires-room-T-TreeItem
next_child-requires-room-T-TreeItem g c κs within = search queue_fits

pub next_child-requires-room-T-Served : goal.next_child-requires-room-T-Served
next_child-requires-room-T-Served g c κs within = search queue_fits

pub next_child-requires-clause-position : goal.next_child-requires-clause-position
next_child-requires-clause-position g c = rw (← c.self.view_is, ← c.as_slice.ensures) at c.requires.position
