use Rattle.cap_tree.proofs.Prelude.{◌∙◌, sym, subst, refl, AreRows}
use Rattle.cap_tree.proofs.Callers.{never_grows}
use Rattle.cap_tree.proofs.Listings.{rows_kept}
use Rattle.cap_tree.proofs.RowPaths.{changed_rows}
use Rattle.cap_tree.proofs.Sizes.{path_fits, queue_fits}
use Rattle.cap_tree.proofs.Waits.{room_there, room_waiting, waiting_one_more, waits_there}
use Rattle.cap_tree.specs.Counted.{AreWaiting}
use Rattle.cap_tree.specs.Queue.{waiting_above, waiting_more}
use Rattle.cap_tree.proofs.ServiceRows.{rows_once}
use Rattle.cap_tree.proofs.tree.QueueTree.wait.Goals as goal

pub as_slice-requires : goal.as_slice-requires
as_slice-requires g c = search path_fits

pub change-requires-clause-can : goal.change-requires-clause-can
change-requires-clause-can g c =
    let room = rw (← c.self.view_is, ← c.as_slice.ensures) at c.requires.room in
    let other = rw (← c.self.view_is, ← c.as_slice.ensures) at c.requires.other in
    waits_there c.args.number c.as_slice.result.now c.self.inside.root c.self.invariant.waiting_are room other

pub change-requires-clause-within : goal.change-requires-clause-within
change-requires-clause-within g c = room_waiting c.self.inside.root (rw (← c.self.view_is) at c.requires.few)

pub unreachable-requires : goal.unreachable-requires
unreachable-requires g c = never_grows c.as_slice.result.now c.self.inside.root c.in_default.ensures.grows

pub invariant_of-self : goal.invariant_of-self
invariant_of-self g c =
    let room = rw (← c.self.view_is, ← c.as_slice.ensures) at c.requires.room in
    let other = rw (← c.self.view_is, ← c.as_slice.ensures) at c.requires.other in
    record {
      rows_are = subst AreRows (sym c.in-Ok.ensures.changed) (rows_kept waiting_above (waiting_more c.args.number) (λ r. refl) (λ r. refl) (λ q. refl) (λ q. refl) c.as_slice.result.now c.self.inside.root c.self.invariant.rows_are);
      start_is = c.self.invariant.start_is;
      waiting_are = subst AreWaiting (sym c.in-Ok.ensures.changed) (waiting_one_more c.args.number c.as_slice.result.now c.self.inside.root c.self.invariant.waiting_are (room_there c.as_slice.result.now c.self.inside.root room) c.requires.number other);
    }

pub returns : goal.returns
returns g c =
    let room = rw (← c.self.view_is, ← c.as_slice.ensures) at c.requires.room in
    rw (← c.self.view_is, ← c.as_slice.ensures)
    (c.in-Ok.ensures.changed
    ∙ changed_rows waiting_above (waiting_more c.args.number) c.as_slice.result.now c.self.inside.root c.self.invariant.rows_are.paths (room_there c.as_slice.result.now c.self.inside.root room))

pub change-requires-room-T-TreeItem : goal.change-requires-room-T-TreeItem
change-requires-room-T-TreeItem g c κs within = search queue_fits

pub change-requires-room-T-Destruct : goal.change-requires-room-T-Destruct
change-requires-room-T-Destruct g c κs within = search queue_fits

pub change-requires-room-C-Change : goal.change-requires-room-C-Change
change-requires-room-C-Change g c κs within = search queue_fits

pub change-requires-clause-once : goal.change-requires-clause-once
change-requires-clause-once g c = rows_once c.self.inside.root c.self.invariant.rows_are.paths

pub change-requires-room-T-Marked : goal.change-requires-room-T-Marked
change-requires-room-T-Marked g c κs within = search queue_fits

pub change-requires-room-T-Served : goal.change-requires-room-T-Served
change-requires-room-T-Served g c κs within = search queue_fits
