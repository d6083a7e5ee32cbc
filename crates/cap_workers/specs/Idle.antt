-- Workers between epochs, and at the end of one.
use Rattle.std.specs.Prelude.{◌≡◌, ℕ, ◌≤◌, List, [], Option, IfSome, length, All}
use mathlib.Core.List.{IsPrefix}
use Rattle.cap_base.specs.Limits.{resources}
use Rattle.cap_base.specs.Members.{IsIn}
use Rattle.cap_lanes.specs.Sides.{WorkerSide}
use Rattle.cap_model.specs.Flat.{Flat}
use Rattle.cap_shared.specs.Following.{Follows}
use Rattle.cap_shared.specs.Journal.{AllHonest, Replays, TagsBelow}
use Rattle.cap_shared.specs.Parts.{Content}
use Rattle.cap_shared.specs.WordRule.{AllFit, times}
use Rattle.cap_shared.specs.declared.entry.Entry.{Entry}
use Rattle.cap_shared.specs.declared.history.Sitting.{Sitting}
use Rattle.cap_workers.specs.Lanes.{LanesEnd}
use Rattle.cap_workers.specs.Scheduling.{Works}
use Rattle.cap_workers.specs.declared.idle.IdleWorker.{IdleWorker}
use Rattle.cap_workers.specs.declared.worker.Worker.{Worker}

-- the cluster of each of these workers that has one is this one
abbrev pub AllAre : Flat resources → List IdleWorker → Type 0
AllAre cluster workers = All (λ w. IfSome w.cluster (λ own. own.flat ≡ cluster)) workers

-- a seat that was answered nothing yet
abbrev pub IsFresh : Sitting → Type 0
IsFresh s = s.past ≡ []

-- One of the seats was answered what this worker did, and nothing else: the worker as it began, and as it has left. Its lane, if it had one, is among
-- those that have ended.
pub record HasSpell (opening : Flat resources) (limit : ℕ) (seats : List Sitting) (ends : List WorkerSide) (worker : Worker × Worker) : Type 0 where
  pub seat : Sitting
  pub member : IsIn seat seats
  pub ended : Option WorkerSide
  pub among : IfSome ended (λ e. IsIn e ends)
  pub works : Works opening limit worker.0 worker.1 seat ended

-- what the worker's replica, if it has one, has followed is a beginning of what a note of one of the seats had, or there are none
abbrev pub HasFollowed : List Sitting → Worker × Option Content → Type 0
HasFollowed seats w = IfSome w.1 (λ own. (seat : Sitting) × IsIn seat seats × Follows own.log seat.past)

abbrev pub AllFollowed : List Sitting → List (Worker × Option Content) → Type 0
AllFollowed seats workers = All (HasFollowed seats) workers

-- what each of these workers has followed is a beginning of the journal
abbrev pub AllBegin : List Entry → List (Worker × Option Content) → Type 0
AllBegin journal workers = All (λ w. IfSome w.1 (λ own. IsPrefix own.log journal)) workers

-- A closed epoch: its journal, at most as long as the limit, leads from the opening to the closing cluster. What its seats were answered fits the
-- journal. Those of the workers, each as it began and as it has left, were answered what these did: turns, or offers, and nothing else. All that they put
-- into lanes was taken and committed, each once, and what came of each was put into the mailbox of its worker.
pub record ClosesEpoch (opening : Flat resources) (limit count : ℕ) (workers : List (Worker × Worker)) (journal : List Entry) (closing : Flat resources) : Type 0 where
  pub run : Replays opening journal closing
  pub within : length journal ≤ limit
  pub tags : TagsBelow count journal
  pub seats : List Sitting
  pub all : length seats ≡ count
  pub once : (x : ℕ) → times x seats ≤ 1
  pub fit : AllFit journal seats
  pub honest : AllHonest opening limit seats
  pub ends : List WorkerSide
  pub work : All (HasSpell opening limit seats ends) workers
  pub lanes : LanesEnd limit seats ends
