use Rattle.cap_tree.proofs.Prelude.{◌∙◌, sym, subst, AreRows}
use Rattle.cap_tree.specs.Counted.{AreWaiting}
use Rattle.cap_tree.proofs.Copies.{made-itself}
use Rattle.cap_tree.proofs.Sizes.{path_fits, queue_fits}
use Rattle.cap_tree.proofs.tree.QueueTree.copy_in.Goals as goal

pub invariant_of-result : goal.invariant_of-result
invariant_of-result g c = record {
  rows_are = subst AreRows (sym (c.in-Ok.ensures ∙ made-itself c.self.inside.root)) c.self.invariant.rows_are;
  start_is = record { empty = c.new.ensures.items; room = c.new.ensures.capacity };
  waiting_are = subst AreWaiting (sym (c.in-Ok.ensures ∙ made-itself c.self.inside.root)) c.self.invariant.waiting_are;
}

pub returns-in-Ok : goal.returns-in-Ok
returns-in-Ok g c = c.in-Ok.ensures ∙ made-itself c.self.inside.root ∙ c.self.view_is

pub copy_in-requires-room-T-TreeItem : goal.copy_in-requires-room-T-TreeItem
copy_in-requires-room-T-TreeItem g c κs within = search queue_fits

pub copy_in-requires-room-T-Destruct : goal.copy_in-requires-room-T-Destruct
copy_in-requires-room-T-Destruct g c κs within = search queue_fits

pub copy_in-requires-room-T-CopyIn : goal.copy_in-requires-room-T-CopyIn
copy_in-requires-room-T-CopyIn g c κs within = search queue_fits

pub copy_in-requires-room-U-Destruct : goal.copy_in-requires-room-U-Destruct
copy_in-requires-room-U-Destruct g c κs within = search queue_fits

pub copy_in-requires-room-U-TreeItem : goal.copy_in-requires-room-U-TreeItem
copy_in-requires-room-U-TreeItem g c κs within = search queue_fits

pub copy_in-requires-room-T-CopyIn-2 : goal.copy_in-requires-room-T-CopyIn-2
copy_in-requires-room-T-CopyIn-2 g c κs within = search queue_fits

pub new-requires : goal.new-requires
new-requires g c = search path_fits
