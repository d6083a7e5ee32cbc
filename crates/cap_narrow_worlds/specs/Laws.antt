-- Where nobody speaks of the third resource, all that happens is what happens with two.
use Rattle.std.specs.Prelude.{◌≡◌, ℕ, ◌<◌, Bool, List, [], ◌∷◌, ◌++◌, map, option_map}
use Rattle.std.specs.List.{All, AllByRecursion}
use Rattle.cap_base.specs.Limits.{resources}
use Rattle.cap_model.specs.declared.event.Event.{Event}
use Rattle.cap_model.specs.Flat.{Flat}
use Rattle.cap_model.specs.Sight.{sight_of}
use Rattle.cap_model.specs.Candidates.{choice_from}
use Rattle.cap_narrow.specs.Clusters.{narrow, narrow_proposal, HasNone}
use Rattle.cap_narrow.specs.Steps.{narrow_event}
use Rattle.cap_world.specs.declared.step.Step.TheVariants as steps
use Rattle.cap_world.specs.Worker.{workers_max}
use Rattle.cap_world.specs.World.{WorldState, choice_of, start as first_state}
use Rattle.cap_world.specs.WorkerLaws.{IsNoCopy}
use Rattle.cap_world.specs.Making.{Makes}
use Rattle.cap_world.specs.Hearing.{Attempt, performed, IsHeadline}
use Rattle.cap_narrow_worlds.specs.Worlds.{HearNoVersion2, RaisesNone}

-- The headline holds without the third resource: the events without it are one run of the flat cluster of two resources, and each
-- connection's output, byte for byte, answers its payloads by its calls without it, in the grammar of two resources. And nothing has any
-- of it at the close.
abbrev pub TwoResourcesAreKept : Type 0
TwoResourcesAreKept =
    (opening : Flat resources) (attempts : List Attempt) (events : List (Event resources)) (closing : Flat resources) (output : ℕ → List ℕ) (is_open : ℕ → Bool) →
    HasNone {K = 2} opening → HearNoVersion2 attempts → All RaisesNone events → IsHeadline opening attempts events closing output is_open →
    IsHeadline {K = 2} (narrow {K = 2} opening) attempts (map (narrow_event {K = 2}) events) (narrow {K = 2} closing) output is_open × HasNone {K = 2} closing

-- And what a worker proposes after such steps is, without the third resource, the choice of the cluster of two as it was at the worker's
-- last Copy that was not refused memory, whatever steps came between.
abbrev pub ProposalsAreOfTwoResources : Type 0
ProposalsAreOfTwoResources =
    (opening : Flat resources) (earlier others : List Attempt) (w start : ℕ) (old new : WorldState) (events before after : List (Event resources)) →
    HasNone {K = 2} opening → HearNoVersion2 earlier → All RaisesNone events → w < workers_max → AllByRecursion (IsNoCopy w) others →
    Makes earlier (first_state opening).sight old [] events → Makes (performed (steps.Copy w) ∷ (others ++ performed (steps.Propose w start) ∷ [])) old new before after →
    option_map (narrow_proposal 2) (choice_of w new) ≡ choice_from (sight_of (narrow {K = 2} old.cluster)) start
