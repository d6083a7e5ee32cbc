-- The lanes of an epoch: ends under its name, and what became of what was put.
use Rattle.std.specs.Prelude.{◌≡◌, ◌⊎◌, ℕ, ◌<◌, List, [], ◌++◌, Option, Some}
use Rattle.cap_base.specs.Members.{IsIn}
use Rattle.cap_lanes.specs.Items.{tagged}
use Rattle.cap_lanes.specs.Sides.{CommitterSide, LanesId, WorkerSide, ends_of, worker_side}
use Rattle.cap_model.specs.Admission.{NodeProposal}
use Rattle.cap_shared.specs.declared.history.Sitting.{Sitting}
use Rattle.cap_workers.specs.Committing.{CommitsAll}
use Rattle.cap_workers.specs.declared.gate.CommitOutcome.{CommitOutcome}

-- a lane of one of eight workers, of the lanes of this name
abbrev pub IsLane : Option LanesId → WorkerSide → Type 0
IsLane name lane = (Some lane.lanes ≡ name) × (lane.worker < 8)

-- a lane into which nothing was put
abbrev pub IsNewLane : Option LanesId → WorkerSide → Type 0
IsNewLane name lane = IsLane name lane × (lane.put ≡ [])

-- the same lane before anything was put into it
abbrev pub emptied : WorkerSide → WorkerSide
emptied lane = worker_side lane.lanes lane.worker []

-- what is seen of the committer's end of lanes, of its seat, and of what was put into mailboxes
pub record Committing : Type 0 where
  pub side : CommitterSide
  pub seat : Sitting
  pub posted : List (ℕ × CommitOutcome)

-- all that the seat was answered is commits of what was taken out of the lanes of this name, and what was put into mailboxes is what came of each, for the
-- worker that put it
abbrev pub IsCommitting : Option LanesId → ℕ → CommitterSide → Sitting → List (ℕ × CommitOutcome) → Type 0
IsCommitting name limit side seat posted = (Some side.lanes ≡ name) × CommitsAll limit side.taken posted seat

-- these seats are among those
abbrev pub StayIn : List Sitting → List Sitting → Type 0
StayIn old new = (s : Sitting) → IsIn s old → IsIn s new

-- Lanes were closed, of which these are the ends. All that one of the seats was answered is commits of what was taken out of the lanes, in order, each
-- once. What was put into mailboxes is what came of each, in this order, each for the worker that put it. What a worker put, in its order, is what was taken
-- of it.
pub record LanesClose (limit : ℕ) (seats : List Sitting) (ends : List WorkerSide) : Type 0 where
  pub seat : Sitting
  pub member : IsIn seat seats
  pub taken : List (ℕ × NodeProposal)
  pub posted : List (ℕ × CommitOutcome)
  pub committed : CommitsAll limit taken posted seat
  pub each : (e : WorkerSide) → IsIn e ends → tagged e.worker taken ≡ e.put
  pub once : (w : ℕ) → w < 8 → ends_of w ends ≡ 1

-- there were no lanes; or they were closed, and these are of their ends
abbrev pub LanesEnd : ℕ → List Sitting → List WorkerSide → Type 0
LanesEnd limit seats ended = (ended ≡ []) ⊎ ((more : List WorkerSide) × LanesClose limit seats (ended ++ more))
