-- What is said of a commit that changed nothing.
use Rattle.cap_world.proofs.Prelude.{◌≡◌, ℕ, List, Result, Err, sym, subst, resources, Event, NoMemory, Flat, Did, Connection, WorkerState, WorldState, WouldBeMade, StepOutcome}
use Rattle.cap_world.specs.declared.step.Step.TheVariants as steps

-- the same cluster and the same workers
pub same_workers : (new old : Flat resources) (connections : List (ℕ × Connection)) (is was : List (ℕ × WorkerState)) → new ≡ old → is ≡ was
    → ◌≡◌ {A = WorldState} (record { cluster = new; connections = connections; workers = is }) (record { cluster = old; connections = connections; workers = was })
same_workers new old connections is was cluster workers = λ i. record { cluster = cluster i; connections = connections; workers = workers i }

-- it was refused memory
pub commit_starved : (w : ℕ) (r : Result Did NoMemory) (e : NoMemory) (old new : WorldState) (before after : List (Event resources)) → r ≡ Err e → WouldBeMade w old → new ≡ old → after ≡ before → StepOutcome (steps.Commit w) r old new before after
commit_starved w r e old new before after is would same events = subst (λ (x : Result Did NoMemory). StepOutcome (steps.Commit w) x old new before after) (sym is) (would, same, events)
