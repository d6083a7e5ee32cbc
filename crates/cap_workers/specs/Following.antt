-- What a turn and an offer do on a replica of the worker's own.
use Rattle.std.specs.Prelude.{ℕ, Bool, IsTrue, List, [], ◌∷◌, Option}
use Rattle.cap_base.specs.Limits.{resources}
use Rattle.cap_model.specs.Admission.{NodeProposal}
use Rattle.cap_model.specs.Flat.{Flat}
use Rattle.cap_shared.specs.declared.entry.Entry.{Entry}
use Rattle.cap_shared.specs.declared.history.NotedAnswer.TheVariants as answer
use Rattle.cap_shared.specs.declared.history.Moment.TheVariants.{Noted}
use Rattle.cap_shared.specs.declared.history.Sitting.{Sitting}
use Rattle.cap_shared.specs.Calls.{HasMore}
use Rattle.cap_shared.specs.Journal.{Replays}
use Rattle.cap_shared.specs.Parts.{Content}
use Rattle.cap_lanes.specs.Sides.{WorkerSide}
use Rattle.cap_workers.specs.Worker.{Chooses, IsOffer, IsTurn}
use Rattle.cap_workers.specs.declared.worker.OfferEnd.{OfferEnd}
use Rattle.cap_workers.specs.declared.worker.TurnEnd.{TurnEnd}

-- one copy of the cluster is noted, and nothing else
abbrev pub NotesCopy : Flat resources → Sitting → Sitting → Type 0
NotesCopy opening old new =
    (entries : List Entry) × (cluster : Flat resources) × Replays opening entries cluster × HasMore old new (Noted entries answer.Copied ∷ [])

-- copies of the cluster are noted, and nothing else
pub data Notes (opening : Flat resources) (old : Sitting) : Sitting → Type 0 where
  notes_none : Notes opening old old
  notes_one : {mid new : Sitting} → Notes opening old mid → NotesCopy opening mid new → Notes opening old new

-- one copy is noted; and if that was all, the replica has followed all entries of the note
pub record TakesPiece (opening : Flat resources) (replica : Content) (old new : Sitting) (is_all : Bool) : Type 0 where
  pub copied : NotesCopy opening old new
  pub run : Replays opening replica.log replica.cluster
  pub all : IsTrue is_all → HasMore old new (Noted replica.log answer.Copied ∷ [])

-- copies are noted, and the replica has followed all entries of the last note
pub record CatchesUp (opening : Flat resources) (replica : Content) (old new : Sitting) : Type 0 where
  pub mid : Sitting
  pub notes : Notes opening old mid
  pub run : Replays opening replica.log replica.cluster
  pub noted : HasMore mid new (Noted replica.log answer.Copied ∷ [])

-- copies are noted, the last of which is that of the choice
abbrev pub ChoosesNow : Flat resources → ℕ → Sitting → Sitting → Option NodeProposal → Type 0
ChoosesNow opening start old new choice = (mid : Sitting) × Notes opening old mid × Chooses opening start mid new choice

-- A turn, as on a copy; but notes of what the replica caught up with may stand before it.
abbrev pub IsFollowingTurn : Flat resources → ℕ → ℕ → Sitting → Sitting → TurnEnd → Type 0
IsFollowingTurn opening limit start old new end = (mid : Sitting) × Notes opening old mid × IsTurn opening limit start mid new end

-- An offer, as on a copy; but notes of what the replica caught up with may stand before it.
abbrev pub IsFollowingOffer : Flat resources → ℕ → Sitting → Sitting → WorkerSide → WorkerSide → OfferEnd → Type 0
IsFollowingOffer opening start old new before after end = (mid : Sitting) × Notes opening old mid × IsOffer opening start mid new before after end
