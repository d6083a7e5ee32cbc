use Rattle.cap_tree.proofs.Prelude.{[], ℕ, List, IsIn, Row, AreRows, MatchOption, queue_cmp, subst, Option, Some, None, option_map_or, Queue}
use Rattle.cap_tree.proofs.NextWaiters.{has_mark, here_is, marked, next_is, none_next, numbers_are, numbers_at, once, there_at}
use Rattle.cap_tree.proofs.Sizes.{queue_fits}
use Rattle.cap_tree.specs.Counted.{AreWaiting}
use Rattle.cap_tree.specs.Numbers.{AreNumbers, IsNextNumber, first_number}
use Rattle.cap_tree.specs.Waiting.{HasNoWaiter, IsNextWaiter, waiting_at}
use Rattle.cap_tree.specs.Walk.{HasNoMarkAfter, IsMarkAfter}
use Rattle.cap_tree.proofs.tree.QueueTree.next_served.Goals as goal

pub places_differ-requires : goal.places_differ-requires
places_differ-requires g c = once c.self.inside.root c.self.invariant.rows_are c.self.invariant.waiting_are

pub get-requires : goal.get-requires
get-requires g c = there_at c.self.inside.root c.self.invariant.rows_are c.self.invariant.waiting_are c.as_slice-position.result.now c.args.number (rw (← c.self.view_is, ← c.as_slice-position.ensures) at c.requires)

pub waiting_after-requires : goal.waiting_after-requires
waiting_after-requires g c =
    let member = rw (← c.self.view_is, ← c.as_slice-position.ensures) at c.requires in
    let there = there_at c.self.inside.root c.self.invariant.rows_are c.self.invariant.waiting_are c.as_slice-position.result.now c.args.number member in (
      (search queue_fits),
      subst (λ o. AreNumbers (option_map_or (λ (q : Queue). q.waiting) o [])) c.get.ensures (numbers_at c.self.inside.root c.self.invariant.rows_are c.self.invariant.waiting_are c.as_slice-position.result.now there),
    )

pub next_waiting-requires-clause-once : goal.next_waiting-requires-clause-once
next_waiting-requires-clause-once g c = once c.self.inside.root c.self.invariant.rows_are c.self.invariant.waiting_are

pub next_waiting-requires-clause-marked : goal.next_waiting-requires-clause-marked
next_waiting-requires-clause-marked g c = marked c.self.inside.root c.self.invariant.rows_are c.self.invariant.waiting_are

pub next_waiting-requires-clause-after : goal.next_waiting-requires-clause-after
next_waiting-requires-clause-after g c =
    let member = rw (← c.self.view_is, ← c.as_slice-position.ensures) at c.requires in
    (has_mark c.self.inside.root c.self.invariant.rows_are c.self.invariant.waiting_are c.as_slice-position.result.now c.args.number member).0

pub places_differ-requires-room-T-TreeItem : goal.places_differ-requires-room-T-TreeItem
places_differ-requires-room-T-TreeItem g c κs within = search queue_fits

pub places_differ-requires-room-T-Destruct : goal.places_differ-requires-room-T-Destruct
places_differ-requires-room-T-Destruct g c κs within = search queue_fits

pub places_differ-requires-room-T-Served : goal.places_differ-requires-room-T-Served
places_differ-requires-room-T-Served g c κs within = search queue_fits

pub get-requires-room-T-TreeItem : goal.get-requires-room-T-TreeItem
get-requires-room-T-TreeItem g c κs within = search queue_fits

pub get-requires-room-T-Destruct : goal.get-requires-room-T-Destruct
get-requires-room-T-Destruct g c κs within = search queue_fits

pub next_waiting-requires-room-T-TreeItem : goal.next_waiting-requires-room-T-TreeItem
next_waiting-requires-room-T-TreeItem g c κs within = search queue_fits

pub next_waiting-requires-room-T-Destruct : goal.next_waiting-requires-room-T-Destruct
next_waiting-requires-room-T-Destruct g c κs within = search queue_fits

pub next_waiting-requires-room-T-Marked : goal.next_waiting-requires-room-T-Marked
next_waiting-requires-room-T-Marked g c κs within = search queue_fits

pub next_waiting-requires-room-T-Served : goal.next_waiting-requires-room-T-Served
next_waiting-requires-room-T-Served g c κs within = search queue_fits

pub returns-in-Some : goal.returns-in-Some
returns-in-Some g c =
    let member = rw (← c.self.view_is, ← c.as_slice-position.ensures) at c.requires in
    let rows = c.self.inside.root in
    let p = c.as_slice-position.result.now in
    let next = subst (λ o. IsNextNumber c.args.number c.get.result.now.waiting o) c.in-Some.is c.waiting_after.ensures in
    rw (← c.self.view_is, ← c.as_slice-position.ensures)
    (here_is rows c.self.invariant.rows_are c.self.invariant.waiting_are p c.args.number member c.places_differ.ensures c.in-Some.next (subst (λ ns. IsNextNumber c.args.number ns (Some c.in-Some.next)) (numbers_are rows p c.get.result.now c.get.ensures) next))

-- what the walk came to, where no greater number waits at the position
walked : (rows : List Row) (are : AreRows rows) (waiting : AreWaiting rows) (p : List ℕ) (n : ℕ) → IsIn n (waiting_at p rows) → IsNextNumber n (waiting_at p rows) None → (o : Option ℕ) → MatchOption o (HasNoMarkAfter queue_cmp (λ (q : Queue). first_number q.waiting) rows p) (IsMarkAfter queue_cmp (λ (q : Queue). first_number q.waiting) rows p) →
    MatchOption o (HasNoWaiter rows (Some (p, n))) (IsNextWaiter rows (Some (p, n)))
walked rows are waiting p n m most None h = none_next rows are waiting p n m most h
walked rows are waiting p n m most (Some i) h = next_is rows are waiting p n m most i h

pub returns-in-None : goal.returns-in-None
returns-in-None g c =
    let member = rw (← c.self.view_is, ← c.as_slice-position.ensures) at c.requires in
    let rows = c.self.inside.root in
    let p = c.as_slice-position.result.now in
    let none = subst (λ o. IsNextNumber c.args.number c.get.result.now.waiting o) c.in-None.is c.waiting_after.ensures in
    rw (← c.self.view_is, ← c.as_slice-position.ensures)
    (walked rows c.self.invariant.rows_are c.self.invariant.waiting_are p c.args.number member (subst (λ ns. IsNextNumber c.args.number ns None) (numbers_are rows p c.get.result.now c.get.ensures) none) c.next_waiting.result c.next_waiting.ensures)
