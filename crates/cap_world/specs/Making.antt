-- Steps that are made one after the other.
use Rattle.std.specs.Prelude.{◌≡◌, List, [], ◌∷◌, Ok, Err}
use Rattle.cap_base.specs.Limits.{resources}
use Rattle.cap_base.specs.declared.no_memory.NoMemory.{NoMemory}
use Rattle.cap_model.specs.declared.event.Event.{Event}
use Rattle.cap_model.specs.Flat.{Flat}
use Rattle.cap_world.specs.declared.step.Did.{Did}
use Rattle.cap_world.specs.World.{WorldState, is_open, output_of, start}
use Rattle.cap_world.specs.Steps.{StepOutcome}
use Rattle.cap_world.specs.Hearing.{Attempt, performed, starved, IsHeadline}

-- a step was made or did not apply, or it was refused memory
abbrev pub ComesTo : Attempt → WorldState → WorldState → List (Event resources) → List (Event resources) → Type 0
ComesTo (performed step) old new before after = (did : Did) × StepOutcome step (Ok did) old new before after
ComesTo (starved step) old new before after = (error : NoMemory) × StepOutcome step (Err error) old new before after

-- each step was made, did not apply or was refused memory where the one before left the world, and its events follow those of the one before
abbrev pub Makes : List Attempt → WorldState → WorldState → List (Event resources) → List (Event resources) → Type 0
Makes [] old new before after = (new ≡ old) × (after ≡ before)
Makes (attempt ∷ attempts) old new before after =
    (mid : WorldState) × (between : List (Event resources)) × ComesTo attempt old mid before between × Makes attempts mid new between after

-- Steps that were made one after the other from an opening have the headline, also where some were refused memory.
abbrev pub MadeStepsHaveTheHeadline : Type 0
MadeStepsHaveTheHeadline =
    (opening : Flat resources) (attempts : List Attempt) (sight : WorldState) (events : List (Event resources)) → Makes attempts (start opening).sight sight [] events →
    IsHeadline opening attempts events sight.cluster (λ c. output_of c sight) (λ c. is_open c sight)
