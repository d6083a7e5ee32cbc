-- Every state of a run from a bounded cluster is bounded.
use Rattle.cap_laws.proofs.Prelude.{◌≡◌, ℕ, List, [], inl, inr, arith, ◌&&◌, Option, Some, None, bytes_eq, true, cases_lt, Settings, fits, times, App, Container, Reservation, opened_cluster, is_under, use_of, queue_use, FitsMaximum, IsLeaf, AreThere, IsQueueBounded, IsNodeBounded, IsReservationBounded, IsWellFormed, IsBounded, IsListing, StepStaysBounded, RunsStayBounded, OpenedIsBounded, OpenedMeetsLimits, of_each, use_amount, use_past, amounts_fit, listings_stand_below}
use Rattle.cap_laws.proofs.calls.Steps.{at_each}
use Rattle.cap_laws.proofs.numbers.ContainerNumbers.{numbers_stay_distinct}
use Rattle.cap_laws.proofs.bounds.Formed.{step_formed}
use Rattle.cap_laws.proofs.bounds.StepBounds.{nodes_stay_bounded, reservations_stay_apart, reservations_stay_bounded}
use Rattle.cap_laws.proofs.uses.TreeSums.{trees_add_up}

pub step_stays_bounded : StepStaysBounded
step_stays_bounded K old new event b s =
    let w = step_formed old new event b.formed s in
    record {
      formed = w;
      parents = trees_add_up K new w;
      nodes = nodes_stay_bounded K old new event b s;
      reservations = reservations_stay_bounded K old new event b s;
      apart = reservations_stay_apart K old new event b s;
      numbers = numbers_stay_distinct K old new event b.numbers s;
    }

pub runs_are_bounded : RunsStayBounded
runs_are_bounded K first rest old new b run = at_each IsBounded (step_stays_bounded K) first rest old new b run

module _ (K : ℕ) where
  -- in an empty cluster nothing is used
  nothing_used : (settings : Settings) (test : List ℕ → List ℕ → Rattle.std.specs.Prelude.Bool) (most : List ℕ) → fits (use_of (opened_cluster {K = K} settings) (λ a. test a.leaf a.user)) most ≡ true
  nothing_used settings test most =
      amounts_fit (use_of (opened_cluster {K = K} settings) (λ a. test a.leaf a.user)) most
      (λ k. elim (cases_lt k K) [
        | inl h ↦ omega (arith, use_amount (opened_cluster {K = K} settings) test k h)
        | inr p ↦ omega (arith, use_past (opened_cluster {K = K} settings) test k p)
      ])

  empty_in_maximum : (settings : Settings) (path : List ℕ) (most : Option (List ℕ)) → FitsMaximum (queue_use (opened_cluster {K = K} settings) path) most
  empty_in_maximum settings path None = tt
  empty_in_maximum settings path (Some m) = nothing_used settings (λ leaf user. is_under path leaf) m

  empty_formed : (settings : Settings) → IsListing settings.queues → IsWellFormed (opened_cluster {K = K} settings)
  empty_formed settings t = record {
    tree = t.tree;
    order = listings_stand_below settings.queues t;
    leaves = of_each (λ (app : App). IsLeaf (opened_cluster {K = K} settings) app.leaf) [] (λ app m. absurd m);
    apps = omega arith;
    nodes = omega arith;
    live = of_each (λ (c : Container). AreThere (opened_cluster {K = K} settings) c.app c.node) [] (λ c m. absurd m);
    reserved = of_each (λ (r : Reservation). AreThere (opened_cluster {K = K} settings) r.app r.node) [] (λ r m. absurd m);
  }

  empty_bounded : (settings : Settings) → IsListing settings.queues → IsBounded (opened_cluster {K = K} settings)
  empty_bounded settings t =
      let w = empty_formed settings t in
      record {
        formed = w;
        parents = trees_add_up K (opened_cluster {K = K} settings) w;
        nodes = of_each (IsNodeBounded (opened_cluster {K = K} settings)) [] (λ node m. absurd m);
        reservations = of_each (IsReservationBounded (opened_cluster {K = K} settings)) [] (λ r m. absurd m);
        apart = tt;
        numbers = omega arith;
      }

pub opened_meets_limits : OpenedMeetsLimits
opened_meets_limits K settings =
    of_each (IsQueueBounded (opened_cluster {K = K} settings)) settings.queues
    (λ q m. record {
      maximum = empty_in_maximum K settings q.path q.maximum;
      users = λ user. nothing_used K settings (λ leaf u. bytes_eq q.path leaf && bytes_eq user u) (times q.factor q.guaranteed);
    })

pub opened_is_bounded : OpenedIsBounded
opened_is_bounded K settings t = empty_bounded K settings t
