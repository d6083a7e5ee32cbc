use Rattle.cap_tree.proofs.Prelude.{◌∙◌, ap, rules, Count, shares}
use Rattle.cap_tree.proofs.Sizes.{amounts_in_queue, shares_in_queue}
use Rattle.cap_tree.proofs.queue.Queue.move_below.Goals as goal

pub moved-count-requires : goal.moved-count-requires
moved-count-requires g c =
    (search rules, (search rules, (rw (← c.self.view_is) at c.requires.fits, rw (← c.self.view_is) at c.requires.within)))

pub of-self-inside-requires : goal.of-self-inside-requires
of-self-inside-requires g c = search (amounts_in_queue, shares_in_queue)

pub invariant_of-self : goal.invariant_of-self
invariant_of-self g c = record { shares_are = c.of-self-inside.ensures ∙ ap (λ (u : Count). shares u.used c.self.inside.guaranteed) c.count.view_is; has_room = c.self.invariant.has_room }
