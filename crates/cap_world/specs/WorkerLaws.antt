-- Laws of the steps of workers.
use Rattle.std.specs.Prelude.{◌≡◌, ◌≢◌, ◌⊎◌, ℕ, ◌<◌, List, [], ◌∷◌, ◌++◌, Option, Some, None, Result, Ok, IsErr, IsSome}
use Rattle.std.specs.List.{AllByRecursion}
use Rattle.cap_base.specs.Limits.{resources}
use Rattle.cap_model.specs.declared.event.Event.{Event}
use Rattle.cap_base.specs.declared.no_memory.NoMemory.{NoMemory}
use Rattle.cap_model.specs.declared.proposal.Reason.{Reason}
use Rattle.cap_model.specs.declared.proposal.Verdict.TheVariants.{Done, Rejected}
use Rattle.cap_model.specs.Sight.{sight_of}
use Rattle.cap_model.specs.Admission.{NodeProposal, IsAdmissible, reason_of}
use Rattle.cap_model.specs.Candidates.{choice_from}
use Rattle.cap_model.specs.Events.{Step as ClusterStep}
use Rattle.cap_model.specs.Verdicts.{IsOf}
use Rattle.cap_world.specs.declared.step.Step.{Step}
use Rattle.cap_world.specs.declared.step.Step.TheVariants as steps
use Rattle.cap_world.specs.declared.step.Did.{Did}
use Rattle.cap_world.specs.declared.step.Did.TheVariants as dids
use Rattle.cap_world.specs.Worker.{workers_max}
use Rattle.cap_world.specs.World.{WorldState, choice_of, verdict_of}
use Rattle.cap_world.specs.Steps.{StepOutcome}
use Rattle.cap_world.specs.Hearing.{Attempt, performed, starved}
use Rattle.cap_world.specs.Making.{Makes}

-- the steps that make no event, whatever comes of them
abbrev pub IsQuiet : Step → Type 0
IsQuiet (steps.Open c) = Unit {0}
IsQuiet (steps.Bytes c piece) = ⊥
IsQuiet (steps.End c) = Unit {0}
IsQuiet (steps.Copy w) = Unit {0}
IsQuiet (steps.Propose w start) = Unit {0}
IsQuiet (steps.Commit w) = ⊥

-- These make no event, and neither does a step that does not apply.
abbrev pub QuietStepsMakeNoEvent : Type 0
QuietStepsMakeNoEvent =
    (step : Step) (result : Result Did NoMemory) (old new : WorldState) (before after : List (Event resources)) → StepOutcome step result old new before after →
    IsQuiet step ⊎ (result ≡ Ok dids.Idle) → after ≡ before

-- What comes of a commit of a proposal: its own event, where it is admissible, or memory is refused; else the first reason against it, and
-- nothing of the cluster changes.
pub record IsExact (w : ℕ) (p : NodeProposal) (result : Result Did NoMemory) (old new : WorldState) (before after : List (Event resources)) : Type 0 where
  pub made : IsAdmissible (sight_of old.cluster) p → IsErr result ⊎ ((event : Event resources) × IsOf p event × (after ≡ before ++ event ∷ []) × (verdict_of w new ≡ Some (Done event)))
  pub rejected : ¬ IsAdmissible (sight_of old.cluster) p →
      (reason : Reason) × (reason_of (sight_of old.cluster) p ≡ Some reason) × (new.cluster ≡ old.cluster) × (after ≡ before) × (verdict_of w new ≡ Some (Rejected reason))

-- This comes of every commit of a worker whose proposal stands.
abbrev pub CommitsAreExact : Type 0
CommitsAreExact =
    (w : ℕ) (p : NodeProposal) (result : Result Did NoMemory) (old new : WorldState) (before after : List (Event resources)) → w < workers_max → choice_of w old ≡ Some p →
    StepOutcome (steps.Commit w) result old new before after → IsExact w p result old new before after

-- a step that is no Copy of that worker, or one that was refused memory
abbrev pub IsNoCopy : ℕ → Attempt → Type 0
IsNoCopy w (starved step) = Unit {0}
IsNoCopy w (performed (steps.Open c)) = Unit {0}
IsNoCopy w (performed (steps.Bytes c piece)) = Unit {0}
IsNoCopy w (performed (steps.End c)) = Unit {0}
IsNoCopy w (performed (steps.Copy v)) = v ≢ w
IsNoCopy w (performed (steps.Propose v start)) = Unit {0}
IsNoCopy w (performed (steps.Commit v)) = Unit {0}

-- What a worker proposes is the choice of the cluster as it was at the worker's last Copy that was not refused memory, whatever steps came
-- between.
abbrev pub ProposalsAreOfCopies : Type 0
ProposalsAreOfCopies =
    (w start : ℕ) (others : List Attempt) (old new : WorldState) (before after : List (Event resources)) → w < workers_max → AllByRecursion (IsNoCopy w) others →
    Makes (performed (steps.Copy w) ∷ (others ++ performed (steps.Propose w start) ∷ [])) old new before after → choice_of w new ≡ choice_from (sight_of old.cluster) start

-- a choice was made of this state of the cluster: its event is a step of the cluster; none, and nothing happens
abbrev pub IsMadeOf : Option NodeProposal → WorldState → WorldState → List (Event resources) → List (Event resources) → Type 0
IsMadeOf None old new before after = (new.cluster ≡ old.cluster) × (after ≡ before)
IsMadeOf (Some p) old new before after = (event : Event resources) × IsOf p event × ClusterStep old.cluster event new.cluster × (after ≡ before ++ event ∷ [])

-- a worker has a choice that was not made, and the cluster is as it was
abbrev pub IsLeftOf : ℕ → Option NodeProposal → WorldState → WorldState → List (Event resources) → List (Event resources) → Type 0
IsLeftOf w choice old new before after = IsSome choice × (choice_of w new ≡ choice) × (new.cluster ≡ old.cluster) × (after ≡ before)

-- copies, proposes and commits, with no other step between
abbrev pub turn_of : ℕ → ℕ → Attempt → List Attempt
turn_of w start commit = performed (steps.Copy w) ∷ performed (steps.Propose w start) ∷ commit ∷ []

-- A worker that copies, proposes and commits with no other step between makes the choice of the state before; where the commit is refused
-- memory, there is one, and it still stands.
abbrev pub CopiedChoicesAreMade : Type 0
CopiedChoicesAreMade =
    (w start : ℕ) (old new : WorldState) (before after : List (Event resources)) → w < workers_max →
    (Makes (turn_of w start (performed (steps.Commit w))) old new before after → IsMadeOf (choice_from (sight_of old.cluster) start) old new before after)
    × (Makes (turn_of w start (starved (steps.Commit w))) old new before after → IsLeftOf w (choice_from (sight_of old.cluster) start) old new before after)
