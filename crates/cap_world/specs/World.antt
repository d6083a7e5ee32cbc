-- A world of connections and workers over one cluster, and what has happened in it.
use Rattle.std.specs.Prelude.{◌≡◌, ℕ, List, [], ◌∷◌, ◌++◌, Option, Some, None, Bool, false, ◌==◌, if◌then◌else◌, nat_eq, drop}
use Rattle.std.specs.List.{flat_map}
use Rattle.std.specs.Map.{lookup}
use Rattle.std.specs.Global.{Vec}
use Rattle.cap_base.specs.Limits.{resources}
use Rattle.cap_model.specs.declared.event.Event.{Event}
use Rattle.cap_model.specs.declared.proposal.Verdict.{Verdict}
use Rattle.cap_model.specs.Admission.{NodeProposal}
use Rattle.cap_base.specs.Settings.{no_settings}
use Rattle.cap_commit.specs.ClusterState.{ClusterState}
use Rattle.cap_model.specs.Flat.{Flat, opened_cluster}
use Rattle.cap_model.specs.Events.{Run}
use Rattle.cap_session.specs.Answers.{Call}
use Rattle.cap_world.specs.Answers.{calls_by}
use Rattle.cap_world.specs.Connection.{Connection, HasAnswers, is_open_standing}
use Rattle.cap_world.specs.Worker.{WorkerState}

-- what is seen of a world: the cluster, and by number the connections that were ever opened, and the workers that ever copied it
pub record WorldState : Type 0 where
  pub cluster : Flat resources
  pub connections : List (ℕ × Connection)
  pub workers : List (ℕ × WorkerState)

-- the connection of a number, if it was ever opened
abbrev pub connection_at : ℕ → List (ℕ × Connection) → Option Connection
connection_at c connections = lookup (nat_eq c) connections

abbrev pub is_open_connection : Option Connection → Bool
is_open_connection None = false
is_open_connection (Some connection) = is_open_standing connection.standing

abbrev pub is_open : ℕ → WorldState → Bool
is_open c sight = is_open_connection (connection_at c sight.connections)

abbrev pub output_from : Option Connection → List ℕ
output_from None = []
output_from (Some connection) = connection.session.unsent

-- all bytes that the connection was ever answered
abbrev pub output_of : ℕ → WorldState → List ℕ
output_of c sight = output_from (connection_at c sight.connections)

-- the worker of a number, if it ever copied the cluster
abbrev pub worker_at : ℕ → List (ℕ × WorkerState) → Option WorkerState
worker_at w workers = lookup (nat_eq w) workers

abbrev pub choice_in : Option WorkerState → Option NodeProposal
choice_in None = None
choice_in (Some worker) = worker.choice

abbrev pub verdict_in : Option WorkerState → Option (Verdict resources)
verdict_in None = None
verdict_in (Some worker) = worker.verdict

-- the proposal of a worker that stands, and the verdict of its last commit
abbrev pub choice_of : ℕ → WorldState → Option NodeProposal
choice_of w sight = choice_in (worker_at w sight.workers)

abbrev pub verdict_of : ℕ → WorldState → Option (Verdict resources)
verdict_of w sight = verdict_in (worker_at w sight.workers)

-- one connection, or one worker, is this now, and each other is what it was
abbrev pub Changes : {X : Type 0} → ℕ → X → List (ℕ × X) → List (ℕ × X) → Type 0
Changes c value old new = (d : ℕ) → lookup (nat_eq d) new ≡ (if c == d then Some value else lookup (nat_eq d) old)

-- what the calls of a connection answered it, if it was ever opened; else it has none
abbrev pub HasAnswersAt : List (Call resources) → Option Connection → Type 0
HasAnswersAt calls None = calls ≡ []
HasAnswersAt calls (Some connection) = HasAnswers calls connection

-- The events are a run of the flat cluster from the opening to the cluster, and each connection was answered for the bytes that it took
-- by its calls among them.
pub record IsLawful (opening : Flat resources) (events : List (Event resources)) (sight : WorldState) : Type 0 where
  pub run : Run opening events sight.cluster
  pub each : (c : ℕ) → HasAnswersAt (calls_by c events) (connection_at c sight.connections)

-- a world, with what it keeps for contracts alone: its opening cluster and its events
pub record Known : Type 0 where
  pub opening : Flat resources
  pub events : List (Event resources)
  pub sight : WorldState

abbrev pub IsWorld : Known → Type 0
IsWorld world = IsLawful world.opening world.events world.sight

abbrev pub start : Flat resources → Known
start opening = record { opening = opening; events = []; sight = record { cluster = opening; connections = []; workers = [] } }

-- The opening stays, and the same events are added to the world's and to the list that was lent.
pub record Adds (old new : Known) (before after : List (Event resources)) : Type 0 where
  pub opening : new.opening ≡ old.opening
  pub more : List (Event resources)
  pub lent : after ≡ before ++ more
  pub kept : new.events ≡ old.events ++ more

-- each entry is the list of events after a step, and how long it was before
abbrev pub events_of : List (Vec (Event resources) × ℕ) → List (Event resources)
events_of entries = flat_map (λ e. drop e.1 e.0.items) entries

-- the first entry is the opening
abbrev pub opening_of : List (ClusterState resources × ℕ) → Flat resources
opening_of [] = opened_cluster no_settings
opening_of (x ∷ xs) = x.0.flat
