use Rattle.cap_tree.proofs.Prelude.{◌≡◌, rules, arith, ◌∙◌, sym, subst, inl, with_settings, AreRows, path_at, IsPosition}
use Rattle.std.proofs.Common.{refl}
use Rattle.cap_tree.specs.Counted.{AreWaiting}
use Rattle.cap_tree.proofs.Waits.{waiting_kept}
use Rattle.cap_tree.proofs.Callers.{never_grows}
use Rattle.cap_tree.proofs.Listings.{row_rows, row_kept}
use Rattle.cap_tree.proofs.RowPaths.{changed_rows}
use Rattle.cap_tree.proofs.Sizes.{path_fits, queue_fits}
use Rattle.cap_tree.proofs.ServiceRows.{rows_once}
use Rattle.cap_tree.proofs.tree.QueueTree.set_row.Goals as goal

pub invariant_of-self : goal.invariant_of-self
invariant_of-self g c =
    let position = c.as_slice.result.now in
    let there : IsPosition c.self.inside.root position = rw c.as_slice.ensures (rw (← c.self.view_is) at c.requires.position) in
    let path : path_at position c.self.inside.root ≡ c.args.row.now.path = rw c.as_slice.ensures (rw (← c.self.view_is) at c.requires.path) in
    let same = changed_rows (λ x. x) (with_settings c.args.row.now) position c.self.inside.root c.self.invariant.rows_are.paths there in
    record {
      rows_are = subst AreRows (sym c.in-Ok.ensures.changed)
          (row_kept c.args.row.now position c.self.inside.root c.requires.factor (row_rows c.args.row.now position (path_at position c.self.inside.root) c.self.inside.root path same) c.self.invariant.rows_are);
      start_is = c.self.invariant.start_is;
      waiting_are = subst AreWaiting (sym c.in-Ok.ensures.changed) (waiting_kept (λ x. x) (with_settings c.args.row.now) (λ q. refl) (λ q. refl) (λ q. refl) (λ q. refl) (λ q. refl) (λ q. refl) position c.self.inside.root c.self.invariant.waiting_are there);
    }

pub returns : goal.returns
returns g c =
    let position = c.as_slice.result.now in
    let there : IsPosition c.self.inside.root position = rw c.as_slice.ensures (rw (← c.self.view_is) at c.requires.position) in
    let path : path_at position c.self.inside.root ≡ c.args.row.now.path = rw c.as_slice.ensures (rw (← c.self.view_is) at c.requires.path) in
    rw (← c.self.view_is)
    (c.in-Ok.ensures.changed ∙ row_rows c.args.row.now position (path_at position c.self.inside.root) c.self.inside.root path
    (changed_rows (λ x. x) (with_settings c.args.row.now) position c.self.inside.root c.self.invariant.rows_are.paths there))

pub unreachable-requires : goal.unreachable-requires
unreachable-requires g c = never_grows c.as_slice.result.now c.self.inside.root c.in_default.ensures.grows

pub as_slice-requires : goal.as_slice-requires
as_slice-requires g c = search path_fits

pub change-requires-clause-can : goal.change-requires-clause-can
change-requires-clause-can g c = rw (← c.self.view_is, ← c.as_slice.ensures) at c.requires.position

pub change-requires-clause-within : goal.change-requires-clause-within
change-requires-clause-within g c m = inl (omega arith)

pub change-requires-room-T-TreeItem : goal.change-requires-room-T-TreeItem
change-requires-room-T-TreeItem g c κs within = search queue_fits

pub change-requires-room-T-Destruct : goal.change-requires-room-T-Destruct
change-requires-room-T-Destruct g c κs within = search queue_fits

pub change-requires-room-C-Change : goal.change-requires-room-C-Change
change-requires-room-C-Change g c κs within = search rules

pub change-requires-room-C-Change-2 : goal.change-requires-room-C-Change-2
change-requires-room-C-Change-2 g c κs within = search queue_fits

pub change-requires-clause-once : goal.change-requires-clause-once
change-requires-clause-once g c = rows_once c.self.inside.root c.self.invariant.rows_are.paths

pub change-requires-room-T-Marked : goal.change-requires-room-T-Marked
change-requires-room-T-Marked g c κs within = search queue_fits

pub change-requires-room-T-Served : goal.change-requires-room-T-Served
change-requires-room-T-Served g c κs within = search queue_fits
