use Rattle.cap_tree.proofs.Prelude.{◌≡◌, ◌∙◌, Some, None, ap, sym, option_map_or, Queue, use_of, user_row, item_at}
use Rattle.cap_tree.proofs.Sizes.{path_fits, queue_fits}
use Rattle.cap_tree.proofs.tree.QueueTree.user_use.Goals as goal

pub as_slice-requires : goal.as_slice-requires
as_slice-requires g c = search path_fits

pub get-requires : goal.get-requires
get-requires g c = rw (← c.self.view_is, ← c.as_slice.ensures) at c.requires

pub user_use-requires : goal.user_use-requires
user_use-requires g c = search queue_fits

pub returns : goal.returns
returns g c =
    let found : item_at c.args.path.now.items c.args.self.now ≡ Some c.get.result.now = rw (← c.self.view_is, ← c.as_slice.ensures) c.get.ensures in
    c.user_use.ensures ∙ sym (ap (λ o. use_of g.row.K (option_map_or (λ (q : Queue). user_row c.args.user.now q.users) o None)) found)

pub get-requires-room-T-TreeItem : goal.get-requires-room-T-TreeItem
get-requires-room-T-TreeItem g c κs within = search queue_fits

pub get-requires-room-T-Destruct : goal.get-requires-room-T-Destruct
get-requires-room-T-Destruct g c κs within = search queue_fits
