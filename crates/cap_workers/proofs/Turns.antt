-- Turns and offers, one after the other.
use Rattle.cap_workers.proofs.Prelude.{◌≡◌, ℕ, List, [], Option, Some, None, refl, sym, ◌∙◌, ap, subst, resources, Flat, Moment, NodeProposal, Sitting, sitting}
use Rattle.cap_lanes.specs.Sides.{LanesId, WorkerSide, worker_side}
use Rattle.cap_workers.specs.Following.{IsFollowingOffer, IsFollowingTurn, Notes}
use Rattle.cap_workers.specs.Lanes.{IsLane, IsNewLane, emptied}
use Rattle.cap_workers.specs.Scheduling.{Offers, offers_follow, offers_none, offers_one, Schedules, Turns, turns_follow, turns_none, turns_one, Works}
use Rattle.cap_workers.specs.Worker.{IsOffer, IsPut, next_turn}
use Rattle.cap_workers.specs.declared.worker.OfferEnd.{OfferEnd}
use Rattle.cap_workers.specs.declared.worker.OfferEnd.TheVariants as ends
use Rattle.cap_workers.specs.declared.worker.TurnEnd.{TurnEnd}
use Rattle.cap_workers.specs.declared.worker.Worker.{Worker}

pub one_turn : {opening : Flat resources} {limit : ℕ} {first worker : Worker} {old mid new : Sitting} (next : Worker) (end : TurnEnd) → Turns opening limit first old worker mid → next ≡ next_turn worker → IsFollowingTurn opening limit worker.start mid new end →
    Turns opening limit first old next new
one_turn {opening} {limit} {first} {worker} {old} {mid} {new} next end before is turn = subst (λ (w : Worker). Turns opening limit first old w new) (sym is) (turns_one before end turn)

pub one_offer : {opening : Flat resources} {first worker : Worker} {old mid new : Sitting} {before side after : WorkerSide} (next : Worker) (end : OfferEnd) → Offers opening first old before worker mid side → next ≡ next_turn worker → IsFollowingOffer opening worker.start mid new side after end →
    Offers opening first old before next new after
one_offer {opening} {first} {worker} {old} {mid} {new} {before} {side} {after} next end so_far is offer = subst (λ (w : Worker). Offers opening first old before w new after) (sym is) (offers_one so_far end offer)

-- at the end what was entered is taken over
pub schedules_follow : (opening : Flat resources) (limit : ℕ) (first : Worker) (old : Sitting) (last : Worker) (mid new : Sitting) (ended : Option WorkerSide) → Schedules opening limit first old last mid ended → Notes opening mid new →
    Schedules opening limit first old last new ended
schedules_follow opening limit first old last mid new None turns follows = turns_follow turns follows
schedules_follow opening limit first old last mid new (Some ended) (own, offers) follows = (own, offers_follow offers follows)

-- a worker keeps its number
turns_number : {opening : Flat resources} {limit : ℕ} {first : Worker} {old : Sitting} {last : Worker} {new : Sitting} → Turns opening limit first old last new → last.number ≡ first.number
turns_number turns_none = refl
turns_number (turns_one before end turn) = turns_number before
turns_number (turns_follow before follows) = turns_number before

offers_number : {opening : Flat resources} {first : Worker} {old : Sitting} {before : WorkerSide} {last : Worker} {new : Sitting} {after : WorkerSide} → Offers opening first old before last new after → last.number ≡ first.number
offers_number offers_none = refl
offers_number (offers_one x end offer) = offers_number x
offers_number (offers_follow x follows) = offers_number x

pub schedules_number : (opening : Flat resources) (limit : ℕ) (first : Worker) (old : Sitting) (last : Worker) (new : Sitting) (ended : Option WorkerSide) → Schedules opening limit first old last new ended → last.number ≡ first.number
schedules_number opening limit first old last new None turns = turns_number turns
schedules_number opening limit first old last new (Some ended) (own, offers) = offers_number offers

-- a lane stays the same, whatever is put into it
abbrev Same : WorkerSide → WorkerSide → Type 0
Same before after = (after.lanes ≡ before.lanes) × (after.worker ≡ before.worker)

same_put : (p : NodeProposal) (before after : WorkerSide) (end : OfferEnd) → IsPut p before after end → Same before after
same_put p before after ends.Nothing h = absurd h
same_put p before after ends.Put h = rw h (refl, refl)
same_put p before after (ends.Refused back) h = rw h.0 (refl, refl)
same_put p before after ends.NoMemory h = absurd h

same_offer : (opening : Flat resources) (start : ℕ) (old new : Sitting) (before after : WorkerSide) (end : OfferEnd) → IsOffer opening start old new before after end → Same before after
same_offer opening start old new before after ends.Nothing h = rw h.1 (refl, refl)
same_offer opening start old new before after ends.Put h = same_put h.0 before after ends.Put h.2
same_offer opening start old new before after (ends.Refused back) h = same_put h.0 before after (ends.Refused back) h.2
same_offer opening start old new before after ends.NoMemory h = rw h.1 (refl, refl)

same_lane : {opening : Flat resources} {first : Worker} {old : Sitting} {before : WorkerSide} {last : Worker} {new : Sitting} {after : WorkerSide} → Offers opening first old before last new after → Same before after
same_lane offers_none = (refl, refl)
same_lane {opening} (offers_one {worker = worker} {mid = mid} {new = new} {side = side} {after = after} x end offer) =
    let one : Same side after = same_offer opening worker.start offer.0 new side after end offer.2 in
    let so_far = same_lane x in
    (one.0 ∙ so_far.0, one.1 ∙ so_far.1)
same_lane (offers_follow x follows) = same_lane x

-- a lane into which offers were put is of the same lanes
pub still_lane : {opening : Flat resources} (name : Option LanesId) {first : Worker} {old : Sitting} {before : WorkerSide} {last : Worker} {new : Sitting} {after : WorkerSide} → IsNewLane name before → Offers opening first old before last new after → IsLane name after
still_lane name fresh offers = let same = same_lane offers in rw (same.0, same.1) fresh.0

emptied_is : (before after : WorkerSide) → Same before after → before.put ≡ [] → before ≡ emptied after
emptied_is before after same none = rw (same.0, same.1) (ap (worker_side before.lanes before.worker) none)

-- all that was put into a lane was offered, since nothing was put into it before
pub all_offered : {opening : Flat resources} (name : Option LanesId) {first : Worker} {old : Sitting} {before : WorkerSide} {last : Worker} {new : Sitting} {after : WorkerSide} → IsNewLane name before → Offers opening first old before last new after →
    (after.worker ≡ before.worker) × Offers opening first old (emptied after) last new after
all_offered {opening} name {first} {old} {before} {last} {new} {after} fresh offers =
    let same = same_lane offers in
    (same.1, subst (λ (b : WorkerSide). Offers opening first old b last new after) (emptied_is before after same fresh.1) offers)

-- all that a seat was answered which was answered nothing before
pub works_from : (opening : Flat resources) (limit : ℕ) (first : Worker) (old : Sitting) (last : Worker) (new : Sitting) (ended : Option WorkerSide) → old.past ≡ [] → Schedules opening limit first old last new ended → Works opening limit first last new ended
works_from opening limit first old last new ended fresh schedules = record {
  seat = old.seat;
  schedules = subst (λ (past : List Moment). Schedules opening limit first (sitting old.seat past) last new ended) fresh schedules;
}
