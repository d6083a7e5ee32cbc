-- What each step does to a world.
use Rattle.std.specs.Prelude.{◌≡◌, ◌≢◌, ◌⊎◌, ℕ, ◌≤◌, ◌<◌, List, Some, None, Result, Ok, Err, false, IsSome}
use Rattle.cap_base.specs.Limits.{resources}
use Rattle.cap_model.specs.declared.event.Event.{Event}
use Rattle.cap_model.specs.Flat.{Flat}
use Rattle.cap_world.specs.declared.connection.Standing.{Standing}
use Rattle.cap_world.specs.declared.connection.Standing.TheVariants as standings
use Rattle.cap_world.specs.declared.step.Step.{Step}
use Rattle.cap_world.specs.declared.step.Step.TheVariants as steps
use Rattle.cap_world.specs.declared.step.Did.{Did}
use Rattle.cap_world.specs.declared.step.Did.TheVariants as dids
use Rattle.cap_base.specs.declared.no_memory.NoMemory.{NoMemory}
use Rattle.cap_world.specs.Connection.{Connection, new_connection}
use Rattle.cap_world.specs.Serving.{Feeds}
use Rattle.cap_world.specs.Worker.{workers_max}
use Rattle.cap_world.specs.World.{WorldState, connection_at, worker_at, choice_of, is_open, Changes}
use Rattle.cap_world.specs.Working.{Copied, Proposed, Tried, WouldBeMade}

-- an open connection has ended
abbrev pub Ended : ℕ → List (ℕ × Connection) → List (ℕ × Connection) → Type 0
Ended c old new = (was : Connection) × (connection_at c old ≡ Some was) × (was.standing ≡ standings.Open) × Changes c (record was { standing = standings.Ended }) old new

-- an open connection was fed a piece, and stands so then
abbrev pub Fed : ℕ → List ℕ → Standing → List (ℕ × Connection) → List (ℕ × Connection) → Flat resources → Flat resources → List (Event resources) → List (Event resources) → Type 0
Fed c piece standing old new from to before after =
    (was is : Connection) × (connection_at c old ≡ Some was) × (was.standing ≡ standings.Open) × Changes c is old new × Feeds c piece from to before after was is × (is.standing ≡ standing)

-- A step that was done: Open and End make no event; Bytes makes one call for each request that the piece completed; Copy and Propose make
-- no event; Commit makes one exactly where the proposal is admissible.
abbrev pub Does : Step → WorldState → WorldState → List (Event resources) → List (Event resources) → Type 0
Does (steps.Open c) old new before after =
    (connection_at c old.connections ≡ None) × Changes c new_connection old.connections new.connections × (new.cluster ≡ old.cluster) × (new.workers ≡ old.workers) × (after ≡ before)
Does (steps.End c) old new before after = Ended c old.connections new.connections × (new.cluster ≡ old.cluster) × (new.workers ≡ old.workers) × (after ≡ before)
Does (steps.Bytes c piece) old new before after =
    (standing : Standing) × (standing ≢ standings.Starved) × Fed c piece.now standing old.connections new.connections old.cluster new.cluster before after × (new.workers ≡ old.workers)
Does (steps.Copy w) old new before after = Copied w old new × (after ≡ before)
Does (steps.Propose w start) old new before after = Proposed w start old new × (after ≡ before)
Does (steps.Commit w) old new before after = Tried w old new before after

-- a step that does not apply: a number that was ever opened is opened again; the connection is not open; there is no such worker; the
-- worker has no snapshot to propose on, or no proposal to commit
abbrev pub DoesNotApply : Step → WorldState → Type 0
DoesNotApply (steps.Open c) old = IsSome (connection_at c old.connections)
DoesNotApply (steps.End c) old = is_open c old ≡ false
DoesNotApply (steps.Bytes c piece) old = is_open c old ≡ false
DoesNotApply (steps.Copy w) old = workers_max ≤ w
DoesNotApply (steps.Propose w start) old = (workers_max ≤ w) ⊎ (worker_at w old.workers ≡ None)
DoesNotApply (steps.Commit w) old = (workers_max ≤ w) ⊎ (choice_of w old ≡ None)

-- A step that was refused memory applies; it changes nothing and makes no event, but in Bytes the connection has ended, and what it was
-- answered before stands. A Commit is refused memory only for a proposal that is admissible, and keeps it.
abbrev pub Starves : Step → WorldState → WorldState → List (Event resources) → List (Event resources) → Type 0
Starves (steps.Open c) old new before after = (connection_at c old.connections ≡ None) × (new ≡ old) × (after ≡ before)
Starves (steps.End c) old new before after = ⊥
Starves (steps.Bytes c piece) old new before after = Fed c piece.now standings.Starved old.connections new.connections old.cluster new.cluster before after × (new.workers ≡ old.workers)
Starves (steps.Copy w) old new before after = (w < workers_max) × (new ≡ old) × (after ≡ before)
Starves (steps.Propose w start) old new before after = ⊥
Starves (steps.Commit w) old new before after = WouldBeMade w old × (new ≡ old) × (after ≡ before)

-- what a step did, by its answer
abbrev pub StepOutcome : Step → Result Did NoMemory → WorldState → WorldState → List (Event resources) → List (Event resources) → Type 0
StepOutcome step (Ok dids.Done) old new before after = Does step old new before after
StepOutcome step (Ok dids.Idle) old new before after = DoesNotApply step old × (new ≡ old) × (after ≡ before)
StepOutcome step (Err e) old new before after = Starves step old new before after
