-- What a turn of a worker does.
use Rattle.std.specs.Prelude.{◌≡◌, ◌⊎◌, ℕ, ◌+◌, ◌%◌, ◌^◌, List, [], ◌∷◌, Option, Some, None, Result, Ok, Err}
use Rattle.cap_base.specs.Limits.{resources}
use Rattle.cap_model.specs.Admission.{NodeProposal}
use Rattle.cap_model.specs.Candidates.{choice_from}
use Rattle.cap_model.specs.Flat.{Flat}
use Rattle.cap_model.specs.declared.proposal.Verdict.{Verdict}
use Rattle.cap_model.specs.declared.proposal.Verdict.TheVariants as verdict
use Rattle.cap_model.specs.Sight.{sight_of}
use Rattle.cap_shared.specs.declared.faults.CommitFault.{CommitFault}
use Rattle.cap_shared.specs.declared.faults.CommitFault.TheVariants as fault
use Rattle.cap_shared.specs.declared.history.Sitting.{Sitting}
use Rattle.cap_shared.specs.Calls.{CommitAnswers, CommitsBack, HasMore}
use Rattle.cap_shared.specs.Journal.{Replays}
use Rattle.cap_shared.specs.declared.entry.Entry.{Entry}
use Rattle.cap_shared.specs.declared.history.NotedAnswer.TheVariants as answer
use Rattle.cap_shared.specs.declared.history.Moment.TheVariants.{Noted}
use Rattle.cap_lanes.specs.Sides.{WorkerSide, after_put}
use Rattle.cap_workers.specs.declared.gate.CommitOutcome.{CommitOutcome}
use Rattle.cap_workers.specs.declared.gate.CommitOutcome.TheVariants as outcomes
use Rattle.cap_workers.specs.declared.worker.TurnEnd.{TurnEnd}
use Rattle.cap_workers.specs.declared.worker.Worker.{Worker}
use Rattle.cap_workers.specs.declared.worker.TurnEnd.TheVariants as ends
use Rattle.cap_workers.specs.declared.worker.OfferEnd.{OfferEnd}
use Rattle.cap_workers.specs.declared.worker.OfferEnd.TheVariants as offers

-- the worker before its next turn, which starts one node later; after the last number at 0
abbrev pub next_turn : Worker → Worker
next_turn w = record { number = w.number; start = (w.start + 1) % 2 ^ 32 }

-- one copy of the cluster is noted, and this is the choice on the cluster of that note, from the starting node
pub record Chooses (opening : Flat resources) (start : ℕ) (old new : Sitting) (choice : Option NodeProposal) : Type 0 where
  pub entries : List Entry
  pub cluster : Flat resources
  pub replays : Replays opening entries cluster
  pub noted : HasMore old new (Noted entries answer.Copied ∷ [])
  pub chosen : choice ≡ choice_from (sight_of cluster) start

-- how a turn ends whose proposal came back
abbrev pub end_by_fault : CommitFault → TurnEnd
end_by_fault (fault.Sealed back) = ends.Sealed back
end_by_fault (fault.NoMemory back) = ends.NoMemory

-- how a turn ends whose commit was answered so
abbrev pub end_by : Result (Verdict resources) CommitFault → TurnEnd
end_by (Ok (verdict.Done event)) = ends.Done event
end_by (Ok (verdict.Rejected reason)) = ends.Rejected reason
end_by (Err missed) = end_by_fault missed

-- what came of a commit that was answered so
abbrev pub outcome_by : Result (Verdict resources) CommitFault → CommitOutcome
outcome_by (Ok (verdict.Done event)) = outcomes.Made
outcome_by (Ok (verdict.Rejected reason)) = outcomes.Rejected
outcome_by (Err missed) = outcomes.Unmade

-- what came of a commit after which a turn ends so
abbrev pub outcome_at : TurnEnd → CommitOutcome
outcome_at ends.Nothing = outcomes.Unmade
outcome_at (ends.Done event) = outcomes.Made
outcome_at (ends.Rejected reason) = outcomes.Rejected
outcome_at (ends.Sealed back) = outcomes.Unmade
outcome_at ends.NoMemory = outcomes.Unmade

-- the proposal was committed once, and the end is what that was answered
abbrev pub IsCommitted : NodeProposal → ℕ → Sitting → Sitting → TurnEnd → Type 0
IsCommitted p limit old new ends.Nothing = ⊥
IsCommitted p limit old new (ends.Done event) = CommitAnswers p old new (verdict.Done event)
IsCommitted p limit old new (ends.Rejected reason) = CommitAnswers p old new (verdict.Rejected reason)
IsCommitted p limit old new (ends.Sealed back) = CommitsBack p limit old new (fault.Sealed back)
IsCommitted p limit old new ends.NoMemory = CommitsBack p limit old new (fault.NoMemory p)

-- a proposal was chosen and then committed
abbrev pub CommitsChoice : Flat resources → ℕ → ℕ → Sitting → Sitting → TurnEnd → Type 0
CommitsChoice opening limit start old new end =
    (mid : Sitting) × (p : NodeProposal) × Chooses opening start old mid (Some p) × IsCommitted p limit mid new end

-- A turn notes one copy of the cluster. Where nothing is chosen on it from the start, that is all; else the choice went to one commit, and the
-- end is what that was answered. Where memory was refused for the copy, nothing is noted.
abbrev pub IsTurn : Flat resources → ℕ → ℕ → Sitting → Sitting → TurnEnd → Type 0
IsTurn opening limit start old new ends.Nothing = Chooses opening start old new None
IsTurn opening limit start old new (ends.Done event) = CommitsChoice opening limit start old new (ends.Done event)
IsTurn opening limit start old new (ends.Rejected reason) = CommitsChoice opening limit start old new (ends.Rejected reason)
IsTurn opening limit start old new (ends.Sealed back) = CommitsChoice opening limit start old new (ends.Sealed back)
IsTurn opening limit start old new ends.NoMemory = (new ≡ old) ⊎ CommitsChoice opening limit start old new ends.NoMemory

-- the proposal was put once, and the end is what that was answered
abbrev pub IsPut : NodeProposal → WorkerSide → WorkerSide → OfferEnd → Type 0
IsPut p before after offers.Nothing = ⊥
IsPut p before after offers.Put = after ≡ after_put before p
IsPut p before after (offers.Refused back) = (after ≡ before) × (back ≡ p)
IsPut p before after offers.NoMemory = ⊥

-- a proposal was chosen and then put
abbrev pub PutsChoice : Flat resources → ℕ → Sitting → Sitting → WorkerSide → WorkerSide → OfferEnd → Type 0
PutsChoice opening start old new before after end =
    (p : NodeProposal) × Chooses opening start old new (Some p) × IsPut p before after end

-- An offer notes one copy of the cluster. Where nothing is chosen on it from the start, that is all; else the choice went to one put, and the
-- end is what that was answered. Where memory was refused, nothing is noted and nothing is put.
abbrev pub IsOffer : Flat resources → ℕ → Sitting → Sitting → WorkerSide → WorkerSide → OfferEnd → Type 0
IsOffer opening start old new before after offers.Nothing = Chooses opening start old new None × (after ≡ before)
IsOffer opening start old new before after offers.Put = PutsChoice opening start old new before after offers.Put
IsOffer opening start old new before after (offers.Refused back) = PutsChoice opening start old new before after (offers.Refused back)
IsOffer opening start old new before after offers.NoMemory = (new ≡ old) × (after ≡ before)
