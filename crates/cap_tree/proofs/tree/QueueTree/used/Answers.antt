use Rattle.cap_tree.proofs.Prelude.{◌∙◌, [], ap, sym, option_map_or, Queue}
use Rattle.cap_tree.proofs.Sizes.{queue_fits}
use Rattle.cap_tree.proofs.tree.QueueTree.used.Goals as goal

pub returns-clause-rows : goal.returns-clause-rows
returns-clause-rows g c = rw (← c.self.view_is) c.self.invariant.rows_are

pub returns-clause-all : goal.returns-clause-all
returns-clause-all g c = rw (← c.self.view_is) (c.used.ensures ∙ sym (ap (λ o. option_map_or (λ (q : Queue). q.used) o []) c.item.ensures))

pub used-requires : goal.used-requires
used-requires g c = search queue_fits

pub item-requires-room-T-TreeItem : goal.item-requires-room-T-TreeItem
item-requires-room-T-TreeItem g c κs within = search queue_fits

pub item-requires-room-T-Destruct : goal.item-requires-room-T-Destruct
item-requires-room-T-Destruct g c κs within = search queue_fits
