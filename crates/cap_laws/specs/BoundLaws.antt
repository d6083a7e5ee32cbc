-- Laws of the bounds: what holds in every state of a run.
use Rattle.std.specs.Prelude.{◌≡◌, ℕ, ◌<◌, Bool, true, false, List, Some, None, ◌++◌, count_by, ◌&&◌, if◌then◌else◌}
use Rattle.std.specs.List.{All, list_any}
use Rattle.cap_model.specs.Asks.{Ask}
use Rattle.cap_model.specs.declared.news.Cause.{Cause}
use Rattle.cap_model.specs.declared.request.Request.{Request}
use Rattle.cap_model.specs.Flat.{Flat, App, Container, with_app, opened_cluster, app_at, node_at}
use Rattle.cap_base.specs.Paths.{is_under, is_child_of}
use Rattle.cap_base.specs.Settings.{Settings, QueueRow}
use Rattle.cap_vector.specs.Vector.{IsSum}
use Rattle.cap_base.specs.Amounts.{fits}
use Rattle.cap_model.specs.Uses.{wanted, queue_use, user_use}
use Rattle.cap_base.specs.Listing.{IsListing}
use Rattle.cap_model.specs.Asking.{after_ask}
use Rattle.cap_model.specs.Ending.{after_ends}
use Rattle.cap_model.specs.Allocate.{after_telling}
use Rattle.cap_model.specs.Sight.{sight_of, still_wanted}
use Rattle.cap_model.specs.declared.event.Event.{Event}
use Rattle.cap_model.specs.Events.{Step, Run}
use Rattle.cap_model.specs.Bounds.{AreApart, IsQueueBounded, IsNodeBounded, IsReservationBounded, IsSumOfChildren, IsWellFormed, IsBounded, IsWithinSizes}
use Rattle.cap_model.specs.Risen.{in_queue, of_user, QuietRun, MeetsMaximum, MeetsUserLimit, LimitsAreMetOrNotRisen}

-- an application in a queue with children, or under it, is in or under exactly one of them
abbrev pub IsInOneChild : {K : ℕ} → Flat K → List ℕ → App → Type 0
IsInOneChild cluster path app =
    count_by (λ child. is_child_of path child.path && is_under child.path app.leaf) cluster.settings.queues ≡ (if is_under path app.leaf then 1 else 0)

-- where each application is in one child of a queue that it is in or under, the queue's use is the sum of its children's
abbrev pub ParentUsesChildren : Type 0
ParentUsesChildren =
    (K : ℕ) (cluster : Flat K) (q : QueueRow) → ((n : ℕ) (app : App) → app_at cluster n ≡ Some app → IsInOneChild cluster q.path app) → IsSumOfChildren cluster q

-- in a well-formed cluster each parent queue uses what its children use together
abbrev pub TreesAddUp : Type 0
TreesAddUp = (K : ℕ) (cluster : Flat K) → IsWellFormed cluster → All (IsSumOfChildren cluster) cluster.settings.queues

-- a step from a well-formed cluster leaves a well-formed one
abbrev pub StepStaysWellFormed : Type 0
StepStaysWellFormed = (K : ℕ) (old new : Flat K) (event : Event K) → IsWellFormed old → Step old event new → IsWellFormed new

-- the number of an application or of a node that has gone is never used again
abbrev pub NumbersAreNotUsedAgain : Type 0
NumbersAreNotUsedAgain =
    (K : ℕ) (events : List (Event K)) (old new : Flat K) (n : ℕ) → IsWellFormed old → Run old events new →
    (n < old.apps.next → app_at old n ≡ None → app_at new n ≡ None) × (n < old.nodes.next_node → node_at old n ≡ None → node_at new n ≡ None)

-- whether a call is a Refresh, the one that may lower a maximum or a user limit
abbrev pub is_refresh : {K : ℕ} → Request K → Bool
is_refresh (Request.Refresh text) = true
is_refresh _ = false

-- and whether an event is one
abbrev pub refreshes : {K : ℕ} → Event K → Bool
refreshes (Event.Call by request reply) = is_refresh request
refreshes (Event.Grant c) = false
refreshes (Event.Reserve r) = false

-- a maximum that is met, and a user limit that is, stays met over a run without a Refresh, whatever other limits are not met
abbrev pub LimitsStayMet : Type 0
LimitsStayMet =
    (K : ℕ) (events : List (Event K)) (old new : Flat K) → IsWellFormed old → list_any refreshes events ≡ false → Run old events new →
    ((path : List ℕ) → MeetsMaximum path old → MeetsMaximum path new) × ((path user : List ℕ) → MeetsUserLimit path user old → MeetsUserLimit path user new)

-- so where each queue is within its maximum and each user within the user limit, they are after a step that is no Refresh
abbrev pub QueuesStayBounded : Type 0
QueuesStayBounded =
    (K : ℕ) (old new : Flat K) (event : Event K) → IsWellFormed old → All (IsQueueBounded old) old.settings.queues → refreshes event ≡ false → Step old event new →
    All (IsQueueBounded new) new.settings.queues

-- a run without grants and reservations for a queue leaves its use where it was, or lower; and so of a user's
abbrev pub QuietRunsRaiseNothing : Type 0
QuietRunsRaiseNothing =
    (K : ℕ) (events : List (Event K)) (old new : Flat K) → IsWellFormed old →
    ((path : List ℕ) → QuietRun (in_queue path) old events new → fits (queue_use new path) (queue_use old path) ≡ true)
    × ((path user : List ℕ) → QuietRun (of_user path user) old events new → fits (user_use new path user) (user_use old path user) ≡ true)

-- in every state of a run from a well-formed cluster each limit is met, or what it bounds has not risen since it was; whatever a Refresh lowers
abbrev pub LimitsOverRuns : Type 0
LimitsOverRuns = (K : ℕ) (events : List (Event K)) (old new : Flat K) → IsWellFormed old → Run old events new → LimitsAreMetOrNotRisen old events new

-- a step keeps what runs on each node within the node's total
abbrev pub NodesStayBounded : Type 0
NodesStayBounded = (K : ℕ) (old new : Flat K) (event : Event K) → IsBounded old → Step old event new → All (IsNodeBounded new) new.nodes.present

-- it keeps reservations on different nodes
abbrev pub ReservationsStayApart : Type 0
ReservationsStayApart = (K : ℕ) (old new : Flat K) (event : Event K) → IsBounded old → Step old event new → AreApart new.nodes.reserved

-- it keeps each reservation on a node that it fits, and for an ask that counts at least as many as room is reserved for
abbrev pub ReservationsStayBounded : Type 0
ReservationsStayBounded = (K : ℕ) (old new : Flat K) (event : Event K) → IsBounded old → Step old event new → All (IsReservationBounded new) new.nodes.reserved

-- a step from a bounded cluster leaves a bounded one
abbrev pub StepStaysBounded : Type 0
StepStaysBounded = (K : ℕ) (old new : Flat K) (event : Event K) → IsBounded old → Step old event new → IsBounded new

-- a part of a call keeps the bounds: live containers that end, an ask that is put, and a report to a master
abbrev pub EndsStayBounded : Type 0
EndsStayBounded = (K : ℕ) (old : Flat K) (cause : Cause) (gone : List Container) → IsBounded old → IsBounded (after_ends cause gone old)

abbrev pub AskStaysBounded : Type 0
AskStaysBounded = (K : ℕ) (old : Flat K) (n : ℕ) (ask : Ask) → IsBounded old → IsBounded (after_ask n old ask)

abbrev pub ReportStaysBounded : Type 0
ReportStaysBounded = (K : ℕ) (old : Flat K) (n id ignored : ℕ) → IsBounded old → IsBounded (with_app n (after_telling id ignored) old)

-- a cluster that was opened just now over listed queues is bounded
abbrev pub OpenedIsBounded : Type 0
OpenedIsBounded = (K : ℕ) (settings : Settings) → IsListing settings.queues → IsBounded (opened_cluster {K = K} settings)

-- and each of its queues is within its maximum, and each user within the user limit
abbrev pub OpenedMeetsLimits : Type 0
OpenedMeetsLimits = (K : ℕ) (settings : Settings) → All (IsQueueBounded (opened_cluster {K = K} settings)) settings.queues

-- every state of a run from a bounded cluster is bounded: the one after each beginning of its events, and so the closing one
abbrev pub RunsStayBounded : Type 0
RunsStayBounded =
    (K : ℕ) (first rest : List (Event K)) (old new : Flat K) → IsBounded old → Run old (first ++ rest) new →
    (mid : Flat K) × Run old first mid × Run mid rest new × IsBounded mid × IsBounded new

-- what a sight shows as still wanted is the ask's count less the reservations for it
abbrev pub WantedIsSeen : Type 0
WantedIsSeen = (K : ℕ) (cluster : Flat K) (app : ℕ) (ask : Ask) → IsBounded cluster → still_wanted (sight_of cluster) app ask ≡ wanted cluster app ask

-- a step leaves a cluster within its sizes, and so does a run
abbrev pub SizesStay : Type 0
SizesStay = (K : ℕ) (old new : Flat K) (event : Event K) → IsWithinSizes old → Step old event new → IsWithinSizes new

abbrev pub RunsStayWithinSizes : Type 0
RunsStayWithinSizes =
    (K : ℕ) (first rest : List (Event K)) (old new : Flat K) → IsWithinSizes old → Run old (first ++ rest) new →
    (mid : Flat K) × Run old first mid × Run mid rest new × IsWithinSizes mid × IsWithinSizes new

-- a cluster that was opened just now is within them
abbrev pub OpenedIsWithinSizes : Type 0
OpenedIsWithinSizes = (K : ℕ) (settings : Settings) → IsWithinSizes (opened_cluster {K = K} settings)

-- each queue's use is a sum of use: at most twice what the nodes have together, once for what runs and once for what is reserved
abbrev pub UsesAreSums : Type 0
UsesAreSums = (K : ℕ) (cluster : Flat K) → IsBounded cluster → IsWithinSizes cluster → (path : List ℕ) → IsSum K (queue_use cluster path)
