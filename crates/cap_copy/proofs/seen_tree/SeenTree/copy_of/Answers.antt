use denote.Param.{number, param}
use Rattle.cap_copy.proofs.Prelude.{arith, ap, ◌∙◌, map, subst, sym, AreRows, IsSeenTree}
use Rattle.cap_copy.proofs.Fitting.{seen_fits}
use Rattle.cap_tree.proofs.Sizes.{source_fits}
use Rattle.cap_copy.proofs.Waits.{none_waits, rows_copied}
use Rattle.cap_copy.proofs.seen_tree.SeenTree.copy_of.Goals as goal

pub copy_in-requires-room-U-TreeItem : goal.copy_in-requires-room-U-TreeItem
copy_in-requires-room-U-TreeItem g c κs within = search seen_fits

pub copy_in-requires-room-T-CopyIn-2 : goal.copy_in-requires-room-T-CopyIn-2
copy_in-requires-room-T-CopyIn-2 g c κs within = search seen_fits

pub copy_in-requires-room-U-Destruct : goal.copy_in-requires-room-U-Destruct
copy_in-requires-room-U-Destruct g c κs within = search seen_fits

pub invariant_of-result : goal.invariant_of-result
invariant_of-result g c =
    subst (λ ps. IsSeenTree c.in-Ok-copy_in.root ps c.in-Ok.links.items) (ap (map (λ e. e.0.items)) (sym c.new.ensures))
    (subst (IsSeenTree c.in-Ok-copy_in.root _) (sym c.in-Ok.ensures.items) (none_waits _ c.in-Ok-copy_in.root c.in-Ok-copy_in.ensures (subst AreRows (sym c.root-queues.ensures.queues) c.root-queues.ensures.rows)))

pub returns-in-Ok-copy_in-clause-rows : goal.returns-in-Ok-copy_in-clause-rows
returns-in-Ok-copy_in-clause-rows g c = rows_copied _ c.in-Ok-copy_in.root c.in-Ok-copy_in.ensures ∙ c.root-queues.ensures.queues

pub returns-in-Ok-copy_in-clause-room : goal.returns-in-Ok-copy_in-clause-room
returns-in-Ok-copy_in-clause-room g c = let room = c.in-Ok.ensures.capacity in omega (arith, room)

pub copy_in-requires-room-T-TreeItem : goal.copy_in-requires-room-T-TreeItem
copy_in-requires-room-T-TreeItem g c κs within = search source_fits

pub copy_in-requires-room-T-CopyIn : goal.copy_in-requires-room-T-CopyIn
copy_in-requires-room-T-CopyIn g c κs within = search source_fits

pub copy_in-requires-room-T-Destruct : goal.copy_in-requires-room-T-Destruct
copy_in-requires-room-T-Destruct g c κs within = search source_fits

pub root-queues-requires : goal.root-queues-requires
root-queues-requires g c = (c.requires.tree, source_fits (param 0 (number g.row.K)) c.requires.tree)
