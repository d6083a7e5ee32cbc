use Rattle.cap_tree.proofs.Prelude.{◌≡◌, ◌∙◌, Some, ap, sym, holds_of, stays_in_user_limit, item_at}
use Rattle.cap_tree.proofs.Sizes.{path_fits, queue_fits}
use Rattle.cap_tree.proofs.tree.QueueTree.stays_in_user_limit.Goals as goal

pub as_slice-requires : goal.as_slice-requires
as_slice-requires g c = search path_fits

pub get-leaf-requires : goal.get-leaf-requires
get-leaf-requires g c = rw (← c.self.view_is, ← c.as_slice.ensures) at c.requires

pub stays_in_user_limit-requires : goal.stays_in_user_limit-requires
stays_in_user_limit-requires g c = search queue_fits

pub returns : goal.returns
returns g c =
    let found : item_at c.args.path.now.items c.args.self.now ≡ Some c.get-leaf.result.now = rw (← c.self.view_is, ← c.as_slice.ensures) c.get-leaf.ensures in
    c.stays_in_user_limit.ensures ∙ sym (ap (holds_of (stays_in_user_limit g.row.K c.args.user.now c.args.old.now c.args.new.now)) found)

pub get-leaf-requires-room-T-TreeItem : goal.get-leaf-requires-room-T-TreeItem
get-leaf-requires-room-T-TreeItem g c κs within = search queue_fits

pub get-leaf-requires-room-T-Destruct : goal.get-leaf-requires-room-T-Destruct
get-leaf-requires-room-T-Destruct g c κs within = search queue_fits
