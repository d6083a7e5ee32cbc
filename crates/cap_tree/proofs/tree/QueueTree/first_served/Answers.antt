use Rattle.cap_tree.proofs.Prelude.{[], ap, ◌∙◌, subst, sym, holds_of, Queue, HoldsOfItem, item_at, nat_lt}
use Rattle.cap_tree.proofs.NextWaiters.{first_is, marked, none_first, once}
use Rattle.cap_tree.proofs.Sizes.{queue_fits}
use Rattle.cap_tree.proofs.tree.QueueTree.first_served.Goals as goal

pub returns-then-not-waits : goal.returns-then-not-waits
returns-then-not-waits g c =
    let root = ap (item_at []) c.top.ensures.is in
    rw (← c.self.view_is) (none_first c.self.inside.root c.self.invariant.rows_are c.self.invariant.waiting_are (subst (HoldsOfItem (λ (_ : Queue). Unit {0})) (sym root) tt)
    (ap (holds_of (λ (q : Queue). nat_lt 0 q.waits)) root ∙ sym c.waits.ensures ∙ c.if-not-waits.true))

pub first_waiting-requires-clause-once : goal.first_waiting-requires-clause-once
first_waiting-requires-clause-once g c = once c.self.inside.root c.self.invariant.rows_are c.self.invariant.waiting_are

pub first_waiting-requires-clause-marked : goal.first_waiting-requires-clause-marked
first_waiting-requires-clause-marked g c = marked c.self.inside.root c.self.invariant.rows_are c.self.invariant.waiting_are

pub first_waiting-requires-clause-some : goal.first_waiting-requires-clause-some
first_waiting-requires-clause-some g c = ap (holds_of (λ (q : Queue). nat_lt 0 q.waits)) (ap (item_at []) c.top.ensures.is) ∙ sym c.waits.ensures ∙ c.if-not-waits.false

pub returns : goal.returns
returns g c = rw (← c.self.view_is) (first_is c.self.inside.root c.self.invariant.rows_are c.self.invariant.waiting_are c.first_waiting.result c.first_waiting.ensures)

pub waits-requires : goal.waits-requires
waits-requires g c = search queue_fits

pub top-requires-room-T-TreeItem : goal.top-requires-room-T-TreeItem
top-requires-room-T-TreeItem g c κs within = search queue_fits

pub top-requires-room-T-Destruct : goal.top-requires-room-T-Destruct
top-requires-room-T-Destruct g c κs within = search queue_fits

pub first_waiting-requires-room-T-TreeItem : goal.first_waiting-requires-room-T-TreeItem
first_waiting-requires-room-T-TreeItem g c κs within = search queue_fits

pub first_waiting-requires-room-T-Destruct : goal.first_waiting-requires-room-T-Destruct
first_waiting-requires-room-T-Destruct g c κs within = search queue_fits

pub first_waiting-requires-room-T-Marked : goal.first_waiting-requires-room-T-Marked
first_waiting-requires-room-T-Marked g c κs within = search queue_fits

pub first_waiting-requires-room-T-Served : goal.first_waiting-requires-room-T-Served
first_waiting-requires-room-T-Served g c κs within = search queue_fits
