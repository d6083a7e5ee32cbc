use Rattle.cap_tree.proofs.Prelude.{arith, ◌∙◌, sym, subst, inl, with_running, AreRows, path_at, IsPosition}
use Rattle.std.proofs.Common.{refl}
use Rattle.cap_tree.specs.Counted.{AreWaiting}
use Rattle.cap_tree.proofs.Waits.{waiting_kept}
use Rattle.cap_tree.proofs.Callers.{never_grows}
use Rattle.cap_tree.proofs.Listings.{state_rows, state_kept}
use Rattle.cap_tree.proofs.RowPaths.{changed_rows}
use Rattle.cap_tree.proofs.Sizes.{path_fits, queue_fits}
use Rattle.cap_tree.proofs.ServiceRows.{rows_once}
use Rattle.cap_tree.proofs.tree.QueueTree.set_state.Goals as goal

pub invariant_of-self : goal.invariant_of-self
invariant_of-self g c =
    let position = c.as_slice.result.now in
    let there : IsPosition c.self.inside.root position = rw c.as_slice.ensures (rw (← c.self.view_is) at c.requires) in
    let same = changed_rows (λ x. x) (with_running c.args.running) position c.self.inside.root c.self.invariant.rows_are.paths there in
    record {
      rows_are = subst AreRows (sym c.in-Ok.ensures.changed)
          (state_kept c.args.running position (path_at position c.self.inside.root) c.self.inside.root (state_rows c.args.running position (path_at position c.self.inside.root) c.self.inside.root same) c.self.invariant.rows_are);
      start_is = c.self.invariant.start_is;
      waiting_are = subst AreWaiting (sym c.in-Ok.ensures.changed) (waiting_kept (λ x. x) (with_running c.args.running) (λ q. refl) (λ q. refl) (λ q. refl) (λ q. refl) (λ q. refl) (λ q. refl) position c.self.inside.root c.self.invariant.waiting_are there);
    }

pub returns : goal.returns
returns g c =
    rw (← c.self.view_is, ← c.as_slice.ensures)
    (c.in-Ok.ensures.changed ∙ state_rows c.args.running c.as_slice.result.now (path_at c.as_slice.result.now c.self.inside.root) c.self.inside.root
    (changed_rows (λ x. x) (with_running c.args.running) c.as_slice.result.now c.self.inside.root c.self.invariant.rows_are.paths (rw c.as_slice.ensures (rw (← c.self.view_is) at c.requires))))

pub unreachable-requires : goal.unreachable-requires
unreachable-requires g c = never_grows c.as_slice.result.now c.self.inside.root c.in_default.ensures.grows

pub as_slice-requires : goal.as_slice-requires
as_slice-requires g c = search path_fits

pub change-requires-clause-can : goal.change-requires-clause-can
change-requires-clause-can g c = rw (← c.self.view_is, ← c.as_slice.ensures) at c.requires

pub change-requires-clause-within : goal.change-requires-clause-within
change-requires-clause-within g c m = inl (omega arith)

pub change-requires-room-T-TreeItem : goal.change-requires-room-T-TreeItem
change-requires-room-T-TreeItem g c κs within = search queue_fits

pub change-requires-room-T-Destruct : goal.change-requires-room-T-Destruct
change-requires-room-T-Destruct g c κs within = search queue_fits

pub change-requires-room-C-Change : goal.change-requires-room-C-Change
change-requires-room-C-Change g c κs within = search queue_fits

pub change-requires-clause-once : goal.change-requires-clause-once
change-requires-clause-once g c = rows_once c.self.inside.root c.self.invariant.rows_are.paths

pub change-requires-room-T-Marked : goal.change-requires-room-T-Marked
change-requires-room-T-Marked g c κs within = search queue_fits

pub change-requires-room-T-Served : goal.change-requires-room-T-Served
change-requires-room-T-Served g c κs within = search queue_fits
