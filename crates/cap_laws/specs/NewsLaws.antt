-- Laws of the news: what an application is told of its grants and of the ends of its containers.
use Rattle.std.specs.Prelude.{◌≡◌, ℕ, List, [], ◌∷◌, ◌++◌, map, filter, count_by, IsSome, not, ◌==◌, ◌&&◌, if◌then◌else◌}
use Rattle.std.specs.Option.{option_map_or}
use Rattle.cap_model.specs.declared.news.Cause.{Cause}
use Rattle.cap_model.specs.News.{Grant}
use Rattle.cap_model.specs.declared.news.End.{End}
use Rattle.cap_model.specs.declared.request.Request.{Request}
use Rattle.cap_model.specs.declared.reply.ReplyWith.TheVariants as Reply
use Rattle.cap_model.specs.Allocate.{is_repeated_allocate, released_by}
use Rattle.cap_model.specs.Heartbeat.{is_repeated_heartbeat, ended_by}
use Rattle.cap_model.specs.Flat.{Flat, Container, app_at, containers_on}
use Rattle.cap_model.specs.declared.event.Event.{Event}
use Rattle.cap_model.specs.Events.{Step, Run, after_event, ever_granted, ever_ended, news_of}
use Rattle.cap_model.specs.Bounds.{IsWellFormed, IsBounded}
use Rattle.cap_laws.specs.EngineLaws.{container_numbers, HasAppNumbers}

-- the grants that an application was not yet told
abbrev pub untold_grants : {K : ℕ} → Flat K → ℕ → List Grant
untold_grants cluster n = option_map_or (λ app. app.grants) (app_at cluster n) []

-- the grants that an event tells an application: those in the reply to an allocate that repeats nothing
abbrev pub told_grants : {K : ℕ} → Flat K → ℕ → Event K → List Grant
told_grants old n (Event.Call by (Request.Allocate app id asks releases) (Reply.Allocate reply)) =
    if app == n && not (is_repeated_allocate old app id) then reply.grants else []
told_grants old n _ = []

-- the grants that an event adds for an application
abbrev pub new_grants : {K : ℕ} → Flat K → ℕ → Event K → List Grant
new_grants old n (Event.Grant c) = if c.app == n then news_of old c ∷ [] else []
new_grants old n _ = []

-- what a step tells an application of grants, with what is then left to tell, is what was left before with what the step adds: told in
-- order, each once, none lost
abbrev pub GrantsAreToldInOrder : Type 0
GrantsAreToldInOrder =
    (K : ℕ) (old new : Flat K) (n : ℕ) (event : Event K) → Step old event new → IsSome (app_at new n) → told_grants old n event ++ untold_grants new n ≡ untold_grants old n ++ new_grants old n event

-- what the events of a run tell an application of grants, and what they add for it
abbrev pub ever_told_grants : {K : ℕ} → Flat K → ℕ → List (Event K) → List Grant
ever_told_grants old n [] = []
ever_told_grants old n (event ∷ events) = told_grants old n event ++ ever_told_grants (after_event old event) n events

abbrev pub ever_new_grants : {K : ℕ} → Flat K → ℕ → List (Event K) → List Grant
ever_new_grants old n [] = []
ever_new_grants old n (event ∷ events) = new_grants old n event ++ ever_new_grants (after_event old event) n events

-- what a run tells an application of grants is a beginning of those untold at its opening followed by those that it adds; where the
-- application is there at the close, what is left of them is what it was not yet told
abbrev pub GrantsAreToldOverRuns : Type 0
GrantsAreToldOverRuns =
    (K : ℕ) (events : List (Event K)) (old new : Flat K) (n : ℕ) → HasAppNumbers old → Run old events new →
    (left : List Grant)
    × (ever_told_grants old n events ++ left ≡ untold_grants old n ++ ever_new_grants old n events)
    × (IsSome (app_at new n) → left ≡ untold_grants new n)

-- the grants that a run adds for an application are its containers among those that the run granted
abbrev pub NewGrantsAreOfTheGranted : Type 0
NewGrantsAreOfTheGranted =
    (K : ℕ) (events : List (Event K)) (old : Flat K) (n : ℕ) → map (λ g. g.container) (ever_new_grants old n events) ≡ container_numbers (filter (λ c. c.app == n) (ever_granted events))

-- the ends that an application was not yet told
abbrev pub untold_ends : {K : ℕ} → Flat K → ℕ → List End
untold_ends cluster n = option_map_or (λ app. app.ends) (app_at cluster n) []

-- the ends that an event tells an application: those in the reply to an allocate that repeats nothing
abbrev pub told_ends : {K : ℕ} → Flat K → ℕ → Event K → List End
told_ends old n (Event.Call by (Request.Allocate app id asks releases) (Reply.Allocate reply)) =
    if app == n && not (is_repeated_allocate old app id) then reply.ends else []
told_ends old n _ = []

-- the ends of those of some containers that were an application's
abbrev pub ends_of : Cause → ℕ → List Container → List End
ends_of cause n gone = map (λ c. record { container = c.number; cause = cause }) (filter (λ c. c.app == n) gone)

-- the ends that an event adds for an application: released, ended on their node, or lost with it
abbrev pub new_ends : {K : ℕ} → Flat K → ℕ → Event K → List End
new_ends old n (Event.Call by (Request.Allocate app id asks releases) (Reply.Allocate reply)) =
    if is_repeated_allocate old app id then [] else ends_of Cause.Released n (released_by old app releases)
new_ends old n (Event.Call by (Request.Heartbeat node id ended) (Reply.Heartbeat reply)) =
    if is_repeated_heartbeat old node id then [] else ends_of Cause.EndedOnNode n (ended_by old node ended)
new_ends old n (Event.Call by (Request.NodeGone node) (Reply.NodeGone count)) = ends_of Cause.NodeLost n (containers_on old.nodes node)
new_ends old n _ = []

-- the same of ends: told in order, each once, none lost
abbrev pub EndsAreToldInOrder : Type 0
EndsAreToldInOrder =
    (K : ℕ) (old new : Flat K) (n : ℕ) (event : Event K) → Step old event new → IsSome (app_at new n) → told_ends old n event ++ untold_ends new n ≡ untold_ends old n ++ new_ends old n event

-- what the events of a run tell an application of ends, and what they add for it
abbrev pub ever_told_ends : {K : ℕ} → Flat K → ℕ → List (Event K) → List End
ever_told_ends old n [] = []
ever_told_ends old n (event ∷ events) = told_ends old n event ++ ever_told_ends (after_event old event) n events

abbrev pub ever_new_ends : {K : ℕ} → Flat K → ℕ → List (Event K) → List End
ever_new_ends old n [] = []
ever_new_ends old n (event ∷ events) = new_ends old n event ++ ever_new_ends (after_event old event) n events

-- the same of ends over a run: told in order, each once, none lost
abbrev pub EndsAreToldOverRuns : Type 0
EndsAreToldOverRuns =
    (K : ℕ) (events : List (Event K)) (old new : Flat K) (n : ℕ) → IsWellFormed old → Run old events new →
    (left : List End)
    × (ever_told_ends old n events ++ left ≡ untold_ends old n ++ ever_new_ends old n events)
    × (IsSome (app_at new n) → left ≡ untold_ends new n)

-- the ends that a run adds for an application that is there at its close are those of its containers that the run ended: of each number as many
abbrev pub NewEndsAreOfTheEnded : Type 0
NewEndsAreOfTheEnded =
    (K : ℕ) (events : List (Event K)) (old new : Flat K) (n : ℕ) → IsBounded old → Run old events new → IsSome (app_at new n) → (number : ℕ) →
    count_by (λ e. e.container == number) (ever_new_ends old n events) ≡ count_by (λ c. c.number == number) (filter (λ c. c.app == n) (ever_ended old events))
