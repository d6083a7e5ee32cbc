-- What is seen of a cluster without the last resource.
use Rattle.cap_narrow.proofs.Prelude.{◌≡◌, ℕ, suc, Bool, true, false, List, ◌++◌, length, take, refl, sym, ◌∙◌, ap, ◌==◌, ◌&&◌, map, filter, option_map, bytes_eq, if◌then◌else◌, All, map-append, length-map, All-append, All-map, All-filter, amount, by_amount, less, QueueRow, holds_of, sum_where, part, is_under, first_of_queue, Flat, App, ClusterNode, Container, Reservation, app_at, reservation_on, Holding, holdings, of_container, of_reservation, use_of, queue_use, user_use, node_held, node_free, QueueSight, AppSight, sight_of, app_sight, queue_sight, node_sight, each_of, of_each, sum_by_map, sum_of_zeros, find_mapped_at, filter_mapped, EndsInNone, narrow, narrow_app, narrow_node, narrow_container, narrow_reservation, narrow_sight, narrow_queue_sight, narrow_app_sight, narrow_node_sight, WantNone, HasNone, ShowsNone, UsesNarrow, SightsNarrow, SightsShowNone}
use Rattle.cap_narrow.proofs.Lists.{holds_mapped, maps_meet}
use Rattle.cap_narrow.proofs.Vectors.{less_narrow, sums_narrow, ends_within}

-- what is held, cut to its first K amounts
abbrev narrow_holding : ℕ → Holding → Holding
narrow_holding K h = record h { resource = take K h.resource }

-- a sum over what is mapped
pub sum_mapped : {A B : Type 0} (K : ℕ) (t : B → Bool) (of : B → List ℕ) (f : A → B) (xs : List A) → sum_where K t of (map f xs) ≡ sum_where K (λ x. t (f x)) (λ x. of (f x)) xs
sum_mapped K t of f xs = λ i. by_amount K (λ k. sum_by_map f (λ x. if t x then amount (of x) k else 0) xs i)

module _ {K : ℕ} (cluster : Flat (suc K)) where
  pub app_narrow : (n : ℕ) → app_at (narrow cluster) n ≡ option_map (narrow_app K) (app_at cluster n)
  app_narrow n = find_mapped_at (narrow_app K) (λ (app : App). app.number == n) cluster.apps.active

  holdings_narrow : holdings (narrow cluster) ≡ map (narrow_holding K) (holdings cluster)
  holdings_narrow =
      (λ i. maps_meet of_container (narrow_container K) (narrow_holding K) of_container (λ c. refl) cluster.nodes.live i
      ++ maps_meet of_reservation (narrow_reservation K) (narrow_holding K) of_reservation (λ r. refl) cluster.nodes.reserved i)
      ∙ sym (map-append (narrow_holding K) (map of_container cluster.nodes.live) (map of_reservation cluster.nodes.reserved))

  -- a use, of the applications that pass a test of their leaf and user
  use_narrow : (test : List ℕ → List ℕ → Bool) → use_of (narrow cluster) (λ a. test a.leaf a.user) ≡ take K (use_of cluster (λ a. test a.leaf a.user))
  use_narrow test =
      let counts : Holding → Bool = λ h. holds_of (λ (a : App). test a.leaf a.user) (app_at (narrow cluster) h.app) in
      let before : Holding → Bool = λ h. holds_of (λ (a : App). test a.leaf a.user) (app_at cluster h.app) in
      ap (sum_where K counts (λ h. h.resource)) holdings_narrow
      ∙ sum_mapped K counts (λ h. h.resource) (narrow_holding K) (holdings cluster)
      ∙ (λ i. sum_where K (λ (h : Holding). (ap (holds_of (λ (a : App). test a.leaf a.user)) (app_narrow h.app) ∙ holds_mapped (narrow_app K) (λ (a : App). test a.leaf a.user) (app_at cluster h.app)) i) (λ h. take K h.resource) (holdings cluster))
      ∙ sums_narrow K before (λ h. h.resource) (holdings cluster)

  pub queue_use_narrow : (path : List ℕ) → queue_use (narrow cluster) path ≡ take K (queue_use cluster path)
  queue_use_narrow path = use_narrow (λ leaf user. is_under path leaf)

  user_use_narrow : (leaf user : List ℕ) → user_use (narrow cluster) leaf user ≡ take K (user_use cluster leaf user)
  user_use_narrow leaf user = use_narrow (λ l u. bytes_eq leaf l && bytes_eq user u)

  held_narrow : (n : ℕ) → node_held (narrow cluster) n ≡ take K (node_held cluster n)
  held_narrow n =
      sum_mapped K (λ (c : Container). c.node == n) (λ c. c.resource) (narrow_container K) cluster.nodes.live
      ∙ sums_narrow K (λ (c : Container). c.node == n) (λ c. c.resource) cluster.nodes.live

  queue_seen : (q : QueueRow) → queue_sight (narrow cluster) (first_of_queue K q) ≡ narrow_queue_sight K (queue_sight cluster q)
  queue_seen q = λ i. record { row = first_of_queue K q; used = queue_use_narrow q.path i; used_by = λ user. user_use_narrow q.path user i }

  node_seen : (node : ClusterNode) → node_sight (narrow cluster) (narrow_node K node) ≡ narrow_node_sight K (node_sight cluster node)
  node_seen node =
      let free : node_free (narrow cluster) (narrow_node K node) ≡ take K (node_free cluster node) = ap (less (take K node.total)) (held_narrow node.number) ∙ less_narrow K node.total (node_held cluster node.number) in
      let held : reservation_on (narrow cluster) node.number ≡ option_map (narrow_reservation K) (reservation_on cluster node.number) = find_mapped_at (narrow_reservation K) (λ (r : Reservation). r.node == node.number) cluster.nodes.reserved in
      λ i. record { number = node.number; host = node.host; rack = node.rack; total = take K node.total; free = free i; reservation = held i }

  apps_seen : map app_sight (filter (λ app. app.registered) (map (narrow_app K) cluster.apps.active)) ≡ map (narrow_app_sight K) (map app_sight (filter (λ app. app.registered) cluster.apps.active))
  apps_seen =
      ap (map app_sight) (filter_mapped (λ (app : App). app.registered) (narrow_app K) cluster.apps.active)
      ∙ maps_meet app_sight (narrow_app K) (narrow_app_sight K) app_sight (λ a. refl) (filter (λ (app : App). app.registered) cluster.apps.active)

  sight_narrow : sight_of (narrow cluster) ≡ narrow_sight (sight_of cluster)
  sight_narrow = λ i. record {
    queues = maps_meet (queue_sight (narrow cluster)) (first_of_queue K) (narrow_queue_sight K) (queue_sight cluster) queue_seen cluster.settings.queues i;
    apps = apps_seen i;
    nodes = maps_meet (node_sight (narrow cluster)) (narrow_node K) (narrow_node_sight K) (node_sight cluster) node_seen cluster.nodes.present i;
    live = length-map cluster.nodes.live (narrow_container K) i;
    next_container = cluster.nodes.next_container;
  }

  module _ (none : HasNone cluster) where
    -- nothing that is held has any of the last resource
    held_ends : All (λ (h : Holding). EndsInNone K h.resource) (holdings cluster)
    held_ends =
        All-append (λ (h : Holding). EndsInNone K h.resource) (map of_container cluster.nodes.live) (map of_reservation cluster.nodes.reserved)
        (All-map (λ (h : Holding). EndsInNone K h.resource) of_container cluster.nodes.live none.live)
        (All-map (λ (h : Holding). EndsInNone K h.resource) of_reservation cluster.nodes.reserved none.reserved)

    use_ends : (test : App → Bool) → EndsInNone K (use_of cluster test)
    use_ends test =
        let counts : Holding → Bool = λ h. holds_of test (app_at cluster h.app) in
        ends_within K (part counts (λ h. h.resource) (holdings cluster))
        (sum_of_zeros (λ (h : Holding). if counts h then amount h.resource K else 0) (holdings cluster)
        (λ h m. by (counts h) (amount h.resource K) (each_of (λ (x : Holding). EndsInNone K x.resource) (holdings cluster) held_ends h m).none))
      where
        by : (b : Bool) (n : ℕ) → n ≡ 0 → (if b then n else 0) ≡ 0
        by true n e = e
        by false n e = refl

    shows_none : ShowsNone (sight_of cluster)
    shows_none = record {
      guarantees = All-map (λ (q : QueueSight). length q.row.guaranteed ≡ suc K) (queue_sight cluster) cluster.settings.queues none.settings.guarantees;
      used = All-map (λ (q : QueueSight). EndsInNone K q.used) (queue_sight cluster) cluster.settings.queues
          (of_each (λ (q : QueueRow). EndsInNone K (queue_use cluster q.path)) cluster.settings.queues (λ q m. use_ends (λ app. is_under q.path app.leaf)));
      used_by = All-map (λ (q : QueueSight). (user : List ℕ) → EndsInNone K (q.used_by user)) (queue_sight cluster) cluster.settings.queues
          (of_each (λ (q : QueueRow). (user : List ℕ) → EndsInNone K (user_use cluster q.path user)) cluster.settings.queues
          (λ q m user. use_ends (λ app. bytes_eq q.path app.leaf && bytes_eq user app.user)));
      asks = All-map (λ (a : AppSight). WantNone K a.asks) app_sight (filter (λ app. app.registered) cluster.apps.active)
          (All-filter (λ (app : App). app.registered) (λ (app : App). WantNone K app.asks) cluster.apps.active none.asks);
    }

pub uses_narrow : UsesNarrow
uses_narrow K cluster path user node = (queue_use_narrow cluster path, user_use_narrow cluster path user, held_narrow cluster node)

pub sights_narrow : SightsNarrow
sights_narrow K cluster = sight_narrow cluster

pub sights_show_none : SightsShowNone
sights_show_none K cluster none = shows_none cluster none
