-- What the steps of a worker do to a world.
use Rattle.std.specs.Prelude.{◌≡◌, ℕ, ◌<◌, List, [], ◌∷◌, ◌++◌, Some}
use Rattle.cap_base.specs.Limits.{resources}
use Rattle.cap_model.specs.declared.event.Event.{Event}
use Rattle.cap_model.specs.declared.proposal.Verdict.{Verdict}
use Rattle.cap_model.specs.declared.proposal.Verdict.TheVariants.{Done, Rejected}
use Rattle.cap_model.specs.Flat.{Flat}
use Rattle.cap_model.specs.Sight.{sight_of}
use Rattle.cap_model.specs.Admission.{NodeProposal, IsAdmissible}
use Rattle.cap_model.specs.Candidates.{choice_from}
use Rattle.cap_model.specs.Verdicts.{IsOf, IsVerdict}
use Rattle.cap_copy.specs.Snapshot.{Seen, sight_in}
use Rattle.cap_sights.specs.Sights.{ShowTheSame}
use Rattle.cap_world.specs.Worker.{WorkerState, workers_max, with_copy, with_choice, with_verdict}
use Rattle.cap_world.specs.World.{WorldState, worker_at, choice_of, Changes}

-- the events of a verdict: the grant or the reservation that was made, none where the proposal was rejected
abbrev pub made_by : Verdict resources → List (Event resources)
made_by (Done event) = event ∷ []
made_by (Rejected reason) = []

-- a verdict whose event, if it has one, is a grant or a reservation
abbrev pub IsOfProposal : Verdict resources → Type 0
IsOfProposal (Done event) = (p : NodeProposal) × IsOf p event
IsOfProposal (Rejected reason) = Unit {0}

-- a proposal was tried on the cluster, came to a verdict, and its event is added
pub record IsTried (p : NodeProposal) (old new : Flat resources) (before after : List (Event resources)) (verdict : Verdict resources) : Type 0 where
  pub is : IsVerdict p old new verdict
  pub events : after ≡ before ++ made_by verdict

-- a worker copied the cluster, so that its snapshot shows the same, and changed nothing else
pub record Copied (w : ℕ) (old new : WorldState) : Type 0 where
  pub below : w < workers_max
  pub seen : Seen
  pub sight : ShowTheSame (sight_in resources seen) (sight_of old.cluster)
  pub change : Changes w (with_copy seen (worker_at w old.workers)) old.workers new.workers
  pub cluster : new.cluster ≡ old.cluster
  pub connections : new.connections ≡ old.connections

-- a worker proposed on its snapshot, whatever the cluster is now, and changed nothing else
pub record Proposed (w start : ℕ) (old new : WorldState) : Type 0 where
  pub below : w < workers_max
  pub was : WorkerState
  pub at : worker_at w old.workers ≡ Some was
  pub change : Changes w (with_choice (choice_from (sight_in resources was.seen) start) was) old.workers new.workers
  pub cluster : new.cluster ≡ old.cluster
  pub connections : new.connections ≡ old.connections

-- a worker's proposal was tried on the cluster, and came to a verdict, whose event is added
pub record Tried (w : ℕ) (old new : WorldState) (before after : List (Event resources)) : Type 0 where
  pub below : w < workers_max
  pub was : WorkerState
  pub at : worker_at w old.workers ≡ Some was
  pub proposal : NodeProposal
  pub choice : was.choice ≡ Some proposal
  pub verdict : Verdict resources
  pub is : IsVerdict proposal old.cluster new.cluster verdict
  pub change : Changes w (with_verdict verdict was) old.workers new.workers
  pub connections : new.connections ≡ old.connections
  pub events : after ≡ before ++ made_by verdict

-- a worker's proposal is admissible now
pub record WouldBeMade (w : ℕ) (sight : WorldState) : Type 0 where
  pub below : w < workers_max
  pub proposal : NodeProposal
  pub choice : choice_of w sight ≡ Some proposal
  pub admissible : IsAdmissible (sight_of sight.cluster) proposal
