use Rattle.cap_tree.proofs.Prelude.{rules, arith, Measure}
use Rattle.cap_tree.proofs.Rooms.{room_below}
use Rattle.cap_tree.proofs.count.moved.Goals as goal

pub exchanged-requires : goal.exchanged-requires
exchanged-requires g c =
    let fits = rw (← c.total.view_is, ← c.old.view_is) at c.requires.fits in
    let within = rw (← c.total.view_is, ← c.old.view_is, ← c.new.view_is) at c.requires.within in
    (search rules, (search rules, (λ k. fits (Measure.uses k), λ k. within (Measure.uses k))))

pub overflow_sub-result : goal.overflow_sub-result
overflow_sub-result g c = rw (← c.total.view_is, ← c.old.view_is) at (c.requires.fits Measure.active)

pub overflow_add-result : goal.overflow_add-result
overflow_add-result g c =
    let within = rw (← c.total.view_is, ← c.old.view_is, ← c.new.view_is) at (c.requires.within Measure.active) in
    let below = room_below c.total.inside.active c.old.inside.active c.new.inside.active 18446744073709551615 (omega arith) (overflow_sub-result g c) within in
    omega (arith, below)
