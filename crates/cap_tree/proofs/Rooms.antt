-- Room for a count in a part of what it is counted in.
use Rattle.cap_tree.proofs.Prelude.{◌≡◌, ℕ, ◌+◌, ◌-◌, ◌≤◌, ◌⊎◌, List, arith, inl, inr, StaysBounded, Measure, Count, IsPart, Queue, count_in, count_moved, user_row, with_count}
use Rattle.cap_tree.specs.Queue.{active_of, of_queue, of_users}
use Rattle.cap_tree.specs.QueueLaws.{moved_own, own_fits}

pub room_in_child : (part whole old new bound : ℕ) → part ≤ whole → StaysBounded whole old new bound → StaysBounded part old new bound
room_in_child part whole old new bound l (inl r) = inl r
room_in_child part whole old new bound l (inr r) = inr (omega arith)

-- what is moved is below the bound again
pub room_below : (whole old new bound : ℕ) → whole ≤ bound → old ≤ whole → StaysBounded whole old new bound → (whole - old) + new ≤ bound
room_below whole old new bound b l (inl r) = omega arith
room_below whole old new bound b l (inr r) = r

-- there is room for the numbers of all its own applications, after a part of what a user counts has moved
pub room_moved : (K : ℕ) (user : List ℕ) (old new : Count) (q : Queue) (before after : ℕ) → IsPart old (count_in K (user_row user q.users)) → of_users q Measure.active ≤ of_queue q Measure.active → active_of q.users ≤ before → before ≤ after →
    (new.active ≤ old.active) ⊎ ((q.active - old.active) + new.active ≤ after) → active_of (with_count user (count_moved old new (count_in K (user_row user q.users))) q.users) ≤ after
room_moved K user old new q before after part sums room more enough =
    let s : active_of (with_count user (count_moved old new (count_in K (user_row user q.users))) q.users) ≡ (active_of q.users - old.active) + new.active = moved_own K user old new q Measure.active part in
    let f : old.active ≤ active_of q.users = own_fits K user old new q Measure.active part in
    let w : active_of q.users ≤ q.active = sums in
    elim enough [ inl fewer ↦ omega (arith, s, f, room, more, fewer) | inr fits ↦ omega (arith, s, f, w, fits) ]
