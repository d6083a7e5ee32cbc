use Rattle.cap_tree.proofs.Prelude.{rules, ◌≡◌, ◌<◌, ◌⊎◌, ◌∙◌, sym, refl, subst, None, IsPart, count_in, moved_above, moved_at, AreRows}
use Rattle.cap_tree.proofs.Callers.{row_holds, holds_of_row}
use Rattle.cap_tree.specs.Counted.{AreWaiting}
use Rattle.cap_tree.proofs.Waits.{waiting_kept}
use Rattle.cap_tree.proofs.Listings.{rows_kept}
use Rattle.cap_tree.proofs.RowPaths.{changed_rows}
use Rattle.cap_tree.proofs.Sizes.{path_fits, queue_fits}
use Rattle.cap_tree.proofs.ServiceRows.{rows_once}
use Rattle.cap_tree.proofs.tree.QueueTree.change.Goals as goal

pub change-requires-clause-can : goal.change-requires-clause-can
change-requires-clause-can g c =
    rw (← c.self.view_is, ← c.as_slice.ensures) at
    (row_holds c.args.change.now.user.now c.args.path.now.items c.args.self.now (λ row. IsPart c.args.change.now.old (count_in g.row.K row)) c.requires.position c.requires.fits)

pub change-requires-clause-within : goal.change-requires-clause-within
change-requires-clause-within g c = rw (← c.self.view_is) at c.requires.within

pub invariant_of-self-2 : goal.invariant_of-self-2
invariant_of-self-2 g c =
    let above = moved_above c.args.change.now.old c.args.change.now.new in
    let at = moved_at g.row.K c.args.change.now.user.now c.args.change.now.old c.args.change.now.new in
    record {
      rows_are = subst AreRows (sym c.in-Ok.ensures.changed) (rows_kept above at (λ r. refl) (λ r. refl) (λ q. refl) (λ q. refl) c.as_slice.result.now c.self.inside.root c.self.invariant.rows_are);
      start_is = c.self.invariant.start_is;
      waiting_are = subst AreWaiting (sym c.in-Ok.ensures.changed) (waiting_kept above at (λ q. refl) (λ q. refl) (λ q. refl) (λ q. refl) (λ q. refl) (λ q. refl) c.as_slice.result.now c.self.inside.root c.self.invariant.waiting_are (rw c.as_slice.ensures (rw (← c.self.view_is) at c.requires.position)));
    }

pub returns-clause-ok : goal.returns-clause-ok
returns-clause-ok g c =
    let above = moved_above c.args.change.now.old c.args.change.now.new in
    let at = moved_at g.row.K c.args.change.now.user.now c.args.change.now.old c.args.change.now.new in
    rw (← c.self.view_is, ← c.as_slice.ensures)
    (c.in-Ok.ensures.changed ∙ changed_rows above at c.as_slice.result.now c.self.inside.root c.self.invariant.rows_are.paths (rw c.as_slice.ensures (rw (← c.self.view_is) at c.requires.position)))

pub returns-in-Err-clause-grows : goal.returns-in-Err-clause-grows
returns-in-Err-clause-grows g c =
    rw (← c.self.view_is, ← c.as_slice.ensures)
    (holds_of_row c.args.change.now.user.now c.as_slice.result.now c.self.inside.root (λ row. (row ≡ None) ⊎ (c.args.change.now.old.active < c.args.change.now.new.active)) c.in-Err.ensures.grows)

pub as_slice-requires : goal.as_slice-requires
as_slice-requires g c = search path_fits

pub invariant_of-self : goal.invariant_of-self
invariant_of-self g c = record { rows_are = subst AreRows (sym c.in-Err.ensures.unchanged) c.self.invariant.rows_are; start_is = c.self.invariant.start_is; waiting_are = subst AreWaiting (sym c.in-Err.ensures.unchanged) c.self.invariant.waiting_are }

pub returns-in-Err-clause-err : goal.returns-in-Err-clause-err
returns-in-Err-clause-err g c = rw (← c.self.view_is) c.in-Err.ensures.unchanged

pub change-requires-room-T-TreeItem : goal.change-requires-room-T-TreeItem
change-requires-room-T-TreeItem g c κs within = search queue_fits

pub change-requires-room-T-Destruct : goal.change-requires-room-T-Destruct
change-requires-room-T-Destruct g c κs within = search queue_fits

pub change-requires-room-C-Change : goal.change-requires-room-C-Change
change-requires-room-C-Change g c κs within = search rules

pub change-requires-room-C-Change-2 : goal.change-requires-room-C-Change-2
change-requires-room-C-Change-2 g c κs within = search queue_fits

pub change-requires-clause-once : goal.change-requires-clause-once
change-requires-clause-once g c = rows_once c.self.inside.root c.self.invariant.rows_are.paths

pub change-requires-room-T-Marked : goal.change-requires-room-T-Marked
change-requires-room-T-Marked g c κs within = search queue_fits

pub change-requires-room-T-Served : goal.change-requires-room-T-Served
change-requires-room-T-Served g c κs within = search queue_fits
