use Rattle.cap_tree.proofs.Prelude.{◌∙◌, ap, sym, option_map_or, Queue}
use Rattle.cap_tree.proofs.Sizes.{queue_fits}
use Rattle.cap_tree.proofs.tree.QueueTree.active.Goals as goal

pub returns : goal.returns
returns g c = rw (← c.self.view_is) (c.active.ensures ∙ sym (ap (λ o. option_map_or (λ (q : Queue). q.active) o 0) c.item.ensures))

pub active-requires : goal.active-requires
active-requires g c = search queue_fits

pub item-requires-room-T-TreeItem : goal.item-requires-room-T-TreeItem
item-requires-room-T-TreeItem g c κs within = search queue_fits

pub item-requires-room-T-Destruct : goal.item-requires-room-T-Destruct
item-requires-room-T-Destruct g c κs within = search queue_fits
