use Rattle.cap_tree.proofs.Prelude.{◌≡◌, ◌∙◌, Bool, true, false, ap, sym, is_some, not}
use Rattle.cap_tree.proofs.RowPaths.{running_rows}
use Rattle.cap_tree.proofs.Sizes.{path_fits, queue_fits}
use Rattle.cap_tree.proofs.tree.QueueTree.running.Goals as goal

turned : (b c : Bool) → b ≡ not c → c ≡ not b
turned b true e = ap not (sym e)
turned b false e = ap not (sym e)

pub returns : goal.returns
returns g c =
    rw (← c.self.view_is, ← c.as_slice.ensures)
    (turned (is_some c.first_failing.result) c.is_none.result c.is_none.ensures ∙ ap (λ o. not (is_some o)) c.first_failing.ensures.level
    ∙ running_rows c.as_slice.result.now c.self.inside.root c.self.invariant.rows_are.paths (rw (← c.self.view_is, ← c.as_slice.ensures) at c.requires))

pub as_slice-requires : goal.as_slice-requires
as_slice-requires g c = search path_fits

pub first_failing-requires : goal.first_failing-requires
first_failing-requires g c = rw (← c.self.view_is, ← c.as_slice.ensures) at c.requires

pub first_failing-requires-room-T-TreeItem : goal.first_failing-requires-room-T-TreeItem
first_failing-requires-room-T-TreeItem g c κs within = search queue_fits

pub first_failing-requires-room-T-Destruct : goal.first_failing-requires-room-T-Destruct
first_failing-requires-room-T-Destruct g c κs within = search queue_fits

pub first_failing-requires-room-C-Test : goal.first_failing-requires-room-C-Test
first_failing-requires-room-C-Test g c κs within = search queue_fits
