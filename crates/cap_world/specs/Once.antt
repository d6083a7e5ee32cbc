-- What else holds of the run of a world: it stays within bounds, and each thing happens once.
use Rattle.std.specs.Prelude.{◌≡◌, ℕ, ◌≤◌, ◌==◌, List, IsSome, ◌++◌, count_by, filter, not}
use Rattle.cap_base.specs.Members.{IsRising}
use Rattle.cap_model.specs.declared.event.Event.{Event}
use Rattle.cap_model.specs.declared.news.End.{End}
use Rattle.cap_model.specs.News.{Grant}
use Rattle.cap_model.specs.Ending.{is_among}
use Rattle.cap_model.specs.Flat.{Flat, app_at}
use Rattle.cap_model.specs.Bounds.{IsBounded}
use Rattle.cap_model.specs.Risen.{LimitsAreMetOrNotRisen}
use Rattle.cap_model.specs.Events.{ever_granted, ever_ended, Run}
use Rattle.cap_laws.specs.EngineLaws.{container_numbers}
use Rattle.cap_laws.specs.NewsLaws.{ever_told_grants, ever_new_grants, untold_grants, ever_told_ends, ever_new_ends, untold_ends}

module _ {K : ℕ} where
  -- Every state of the run is bounded: the one after each beginning of the events, and so the closing one. And there each queue's use is
  -- within its maximum and each user's within the user limit, or not risen since it was.
  abbrev pub StaysBounded : Flat K → List (Event K) → Flat K → Type 0
  StaysBounded opening events closing =
      (first rest : List (Event K)) → events ≡ first ++ rest →
      (mid : Flat K) × Run opening first mid × Run mid rest closing × IsBounded mid × LimitsAreMetOrNotRisen opening first mid

  -- No container is granted twice: their numbers rise, from the first that was free. None ends twice. The live ones at the close are those
  -- of the opening with the granted, without the ended, in this order.
  pub record UsesContainersOnce (opening : Flat K) (events : List (Event K)) (closing : Flat K) : Type 0 where
    pub granted : IsRising opening.nodes.next_container (container_numbers (ever_granted events)) closing.nodes.next_container
    pub ended : (n : ℕ) → count_by (λ c. c.number == n) (ever_ended opening events) ≤ 1
    pub kept : closing.nodes.live ≡ filter (λ c. not (is_among (ever_ended opening events) c)) (opening.nodes.live ++ ever_granted events)

  -- What is reported to an application of grants is a beginning of those not yet reported at the opening, followed by those that were
  -- added, each once and in order; where the application is there at the close, the others are not yet reported then. The same of ends.
  pub record ReportsNewsOnce (opening : Flat K) (events : List (Event K)) (closing : Flat K) : Type 0 where
    pub grants : (n : ℕ) → (left : List Grant)
        × (ever_told_grants opening n events ++ left ≡ untold_grants opening n ++ ever_new_grants opening n events)
        × (IsSome (app_at closing n) → left ≡ untold_grants closing n)
    pub ends : (n : ℕ) → (left : List End)
        × (ever_told_ends opening n events ++ left ≡ untold_ends opening n ++ ever_new_ends opening n events)
        × (IsSome (app_at closing n) → left ≡ untold_ends closing n)

  -- each container is granted once and ends once, and both are reported once and in order
  pub record HappensOnce (opening : Flat K) (events : List (Event K)) (closing : Flat K) : Type 0 where
    pub containers : UsesContainersOnce opening events closing
    pub news : ReportsNewsOnce opening events closing
