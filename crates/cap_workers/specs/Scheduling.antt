-- What a worker does in an epoch: turns, or offers, one after the other, and nothing else.
use Rattle.std.specs.Prelude.{◌≡◌, ℕ, [], Option, Some, None}
use Rattle.cap_base.specs.Limits.{resources}
use Rattle.cap_lanes.specs.Sides.{WorkerSide}
use Rattle.cap_model.specs.Flat.{Flat}
use Rattle.cap_shared.specs.declared.history.Sitting.{Sitting}
use Rattle.cap_shared.specs.WordRule.{sitting}
use Rattle.cap_workers.specs.Following.{IsFollowingTurn, IsFollowingOffer, Notes}
use Rattle.cap_workers.specs.Lanes.{emptied}
use Rattle.cap_workers.specs.Worker.{next_turn}
use Rattle.cap_workers.specs.declared.seeing.Seeing.{Seeing}
use Rattle.cap_workers.specs.declared.seeing.Seeing.TheVariants as ways
use Rattle.cap_workers.specs.declared.worker.OfferEnd.{OfferEnd}
use Rattle.cap_workers.specs.declared.worker.TurnEnd.{TurnEnd}
use Rattle.cap_workers.specs.declared.worker.Worker.{Worker}

-- turns one after the other, each of which starts one node after the one before; and what was entered is taken over in between
pub data Turns (opening : Flat resources) (limit : ℕ) (first : Worker) (old : Sitting) : Worker → Sitting → Type 0 where
  turns_none : Turns opening limit first old first old
  turns_one : {worker : Worker} {mid new : Sitting} → Turns opening limit first old worker mid → (end : TurnEnd) → IsFollowingTurn opening limit worker.start mid new end → Turns opening limit first old (next_turn worker) new
  turns_follow : {worker : Worker} {mid new : Sitting} → Turns opening limit first old worker mid → Notes opening mid new → Turns opening limit first old worker new

-- offers one after the other, each of which starts one node after the one before; and what was entered is taken over in between
pub data Offers (opening : Flat resources) (first : Worker) (old : Sitting) (before : WorkerSide) : Worker → Sitting → WorkerSide → Type 0 where
  offers_none : Offers opening first old before first old before
  offers_one : {worker : Worker} {mid new : Sitting} {side after : WorkerSide} → Offers opening first old before worker mid side → (end : OfferEnd) → IsFollowingOffer opening worker.start mid new side after end
      → Offers opening first old before (next_turn worker) new after
  offers_follow : {worker : Worker} {mid new : Sitting} {side : WorkerSide} → Offers opening first old before worker mid side → Notes opening mid new → Offers opening first old before worker new side

-- turns; with a lane of its own, into which nothing was put before and which has ended, offers that go there
abbrev pub Schedules : Flat resources → ℕ → Worker → Sitting → Worker → Sitting → Option WorkerSide → Type 0
Schedules opening limit first old last new None = Turns opening limit first old last new
Schedules opening limit first old last new (Some ended) = (ended.worker ≡ first.number) × Offers opening first old (emptied ended) last new ended

-- what the seat was answered of a worker that sees the cluster in either way
abbrev pub seat_of : {J : Type 0} → Seeing J → Sitting
seat_of (ways.Following seat) = seat
seat_of (ways.Copying seat) = seat

-- all that a worker's seat was answered in an epoch is what it did, which was this worker as the epoch began
pub record Works (opening : Flat resources) (limit : ℕ) (first last : Worker) (new : Sitting) (ended : Option WorkerSide) : Type 0 where
  pub seat : ℕ
  pub schedules : Schedules opening limit first (sitting seat []) last new ended

-- what is seen of a worker that has left an epoch: what it was as the epoch began, and what it is now
pub record Work : Type 0 where
  pub first : Worker
  pub worker : Worker
  pub seat : Sitting
  pub ended : Option WorkerSide

-- the worker as it began, and as it has left
abbrev pub spell : Work → Worker × Worker
spell w = (w.first, w.worker)
