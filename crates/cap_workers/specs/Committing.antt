-- What is committed of what was put into the lanes.
use Rattle.std.specs.Prelude.{◌≡◌, ℕ, List, [], ◌∷◌, ◌++◌, Option, Some, None, Result, MatchResult}
use Rattle.cap_base.specs.Limits.{resources}
use Rattle.cap_lanes.specs.Sides.{CommitterSide}
use Rattle.cap_model.specs.Admission.{NodeProposal}
use Rattle.cap_model.specs.declared.proposal.Verdict.{Verdict}
use Rattle.cap_shared.specs.Calls.{CommitAnswers, CommitsBack}
use Rattle.cap_shared.specs.WordRule.{sitting}
use Rattle.cap_shared.specs.declared.faults.CommitFault.{CommitFault}
use Rattle.cap_shared.specs.declared.history.Sitting.{Sitting}
use Rattle.cap_workers.specs.Worker.{IsCommitted, outcome_at, outcome_by}
use Rattle.cap_workers.specs.declared.gate.CommitOutcome.{CommitOutcome}
use Rattle.cap_workers.specs.declared.worker.TurnEnd.{TurnEnd}

-- the proposal that came next in the lanes was committed once, and this came of it, for the worker that put it
abbrev pub CommitsNext : ℕ → Sitting → Sitting → CommitterSide → CommitterSide → ℕ × CommitOutcome → Type 0
CommitsNext limit old new before after told =
    (p : NodeProposal) × (answer : Result (Verdict resources) CommitFault) × (after.taken ≡ before.taken ++ (told.0, p) ∷ []) × MatchResult answer (CommitAnswers p old new) (CommitsBack p limit old new) × (told.1 ≡ outcome_by answer)

-- these proposals, each with the number of its worker, were committed one after the other, each once, and this came of them, for the same workers
pub data Commits (limit : ℕ) (old : Sitting) : List (ℕ × NodeProposal) → List (ℕ × CommitOutcome) → Sitting → Type 0 where
  commits_none : Commits limit old [] [] old
  commits_one : {taken : List (ℕ × NodeProposal)} {told : List (ℕ × CommitOutcome)} {mid new : Sitting} → Commits limit old taken told mid → (worker : ℕ) (p : NodeProposal) (end : TurnEnd) → IsCommitted p limit mid new end
      → Commits limit old (taken ++ (worker, p) ∷ []) (told ++ (worker, outcome_at end) ∷ []) new

-- all that a seat was answered: these proposals were committed one after the other, each once, and this came of them
abbrev pub CommitsAll : ℕ → List (ℕ × NodeProposal) → List (ℕ × CommitOutcome) → Sitting → Type 0
CommitsAll limit taken told seat = (n : ℕ) × Commits limit (sitting n []) taken told seat

-- what was taken out of the lanes was committed, in the order in which it was taken, and this came of it
abbrev pub CommitsTaken : ℕ → Sitting → Sitting → CommitterSide → CommitterSide → List (ℕ × CommitOutcome) → Type 0
CommitsTaken limit old new before after told = (taken : List (ℕ × NodeProposal)) × (after.taken ≡ before.taken ++ taken) × Commits limit old taken told new

-- what places hold, in order
abbrev pub held_in : List (Option (ℕ × CommitOutcome)) → List (ℕ × CommitOutcome)
held_in [] = []
held_in (None ∷ places) = held_in places
held_in (Some told ∷ places) = told ∷ held_in places
