-- Laws of worlds: what else holds of every run of them.
use Rattle.std.specs.Prelude.{◌≡◌, ℕ, Bool, List, [], Some}
use Rattle.std.specs.List.{All}
use Rattle.cap_base.specs.Limits.{resources}
use Rattle.cap_base.specs.Settings.{Settings}
use Rattle.cap_base.specs.properties.First.{settings_in}
use Rattle.cap_model.specs.declared.event.Event.{Event}
use Rattle.cap_model.specs.Flat.{Flat, opened_cluster}
use Rattle.cap_model.specs.Bounds.{IsBounded, IsQueueBounded}
use Rattle.cap_world.specs.World.{WorldState, is_open, output_of, start}
use Rattle.cap_world.specs.Hearing.{Attempt, IsHeadline}
use Rattle.cap_world.specs.Making.{Makes}
use Rattle.cap_world.specs.Once.{StaysBounded, UsesContainersOnce, ReportsNewsOnce, HappensOnce}

-- it holds of the opening cluster, the events and the closing cluster of every run of steps over a bounded opening
abbrev pub OfWorlds : (Flat resources → List (Event resources) → Flat resources → Type 0) → Type 0
OfWorlds Holds =
    (opening : Flat resources) (attempts : List Attempt) (events : List (Event resources)) (closing : Flat resources) (output : ℕ → List ℕ) (is_open : ℕ → Bool) → IsBounded opening →
    IsHeadline opening attempts events closing output is_open → Holds opening events closing

abbrev pub WorldsStayBounded : Type 0
WorldsStayBounded = OfWorlds (λ opening events closing. StaysBounded opening events closing)

abbrev pub ContainersAreUsedOnce : Type 0
ContainersAreUsedOnce = OfWorlds (λ opening events closing. UsesContainersOnce opening events closing)

abbrev pub NewsIsReportedOnce : Type 0
NewsIsReportedOnce = OfWorlds (λ opening events closing. ReportsNewsOnce opening events closing)

-- The cluster that the settings of a text open is bounded, each queue within its maximum and each user within the user limit.
abbrev pub OpeningsAreBounded : Type 0
OpeningsAreBounded =
    (text : List ℕ) (settings : Settings) → settings_in text ≡ Some settings →
    IsBounded (opened_cluster {K = resources} settings) × All (IsQueueBounded (opened_cluster {K = resources} settings)) settings.queues

-- Whatever steps are made from this opening, of which some may be refused memory, they have the headline, every state is bounded, and each
-- thing happens once.
abbrev pub KeepsPromises : Flat resources → Type 0
KeepsPromises opening =
    (attempts : List Attempt) (sight : WorldState) (events : List (Event resources)) → Makes attempts (start opening).sight sight [] events →
    IsHeadline opening attempts events sight.cluster (λ c. output_of c sight) (λ c. is_open c sight) × StaysBounded opening events sight.cluster × HappensOnce opening events sight.cluster
