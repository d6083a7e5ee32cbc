-- Refusals of calls, and what they read, without the last resource.
use Rattle.cap_narrow.proofs.Prelude.{◌≡◌, ℕ, suc, true, List, [], ◌∷◌, ◌++◌, length, take, refl, sym, ◌∙◌, ap, arith, is_some, is_none, not, ◌==◌, ◌&&◌, nat_le, nat_lt, nat_eq, map, filter, option_map, bytes_eq, list_any, list_all, fold, starts_with, length-map, amount_max, amount, plus, is_within, amount-plus, length-plus, QueueRow, number_end, nodes_max, keys_max, holds_of, earliest, part, dot, Ask, Refusal, Request, is_under, first_of_queue, Flat, App, ClusterNode, Container, app_at, node_at, queue_at, containers_of, containers_on, repeats, is_bad, put_ask, has_children, is_running, is_repeated_allocate, is_too_large, has_too_many_keys, total_of_nodes, is_repeated_heartbeat, refusal_of, may_grow, early_refusal, each_of, find_mapped_at, filter_mapped, sum_of_zeros, EndsInNone, narrow, narrow_ask, narrow_app, narrow_allocate_reply, narrow_node, narrow_container, WantNone, HasNone, narrow_request, AsksNone}
use Rattle.cap_narrow.proofs.Lists.{holds_mapped, some_mapped, none_mapped, all_same, any_same}
use Rattle.cap_narrow.proofs.Vectors.{fits_narrow, plus_narrow, sums_narrow, ends_within, within_narrow, zero_narrow}
use Rattle.cap_narrow.proofs.Sights.{sum_mapped, app_narrow}
use Rattle.cap_narrow.proofs.Asking.{puts_narrow}
use Rattle.cap_narrow.proofs.Refreshing.{refresh_refused}

module _ {K : ℕ} where
  -- ---- reads
  module _ (c : Flat (suc K)) where
    pub queue_narrow : (path : List ℕ) → queue_at (narrow c) path ≡ option_map (first_of_queue K) (queue_at c path)
    queue_narrow path = find_mapped_at (first_of_queue K) (λ (q : QueueRow). bytes_eq q.path path) c.settings.queues

    pub node_narrow : (n : ℕ) → node_at (narrow c) n ≡ option_map (narrow_node K) (node_at c n)
    node_narrow n = find_mapped_at (narrow_node K) (λ (x : ClusterNode). x.number == n) c.nodes.present

    no_queue : (path : List ℕ) → is_none (queue_at (narrow c) path) ≡ is_none (queue_at c path)
    no_queue path = ap is_none (queue_narrow path) ∙ none_mapped (first_of_queue K) (queue_at c path)

    no_app : (n : ℕ) → is_none (app_at (narrow c) n) ≡ is_none (app_at c n)
    no_app n = ap is_none (app_narrow c n) ∙ none_mapped (narrow_app K) (app_at c n)

    no_node : (n : ℕ) → is_none (node_at (narrow c) n) ≡ is_none (node_at c n)
    no_node n = ap is_none (node_narrow n) ∙ none_mapped (narrow_node K) (node_at c n)

    pub children_narrow : (path : List ℕ) → has_children (narrow c) path ≡ has_children c path
    children_narrow path =
        any_same (first_of_queue K) (λ (q : QueueRow). starts_with nat_eq q.path (path ++ dot ∷ [])) (λ (q : QueueRow). starts_with nat_eq q.path (path ++ dot ∷ [])) c.settings.queues (λ q m. refl)

    pub running_narrow : (path : List ℕ) → is_running (narrow c) path ≡ is_running c path
    running_narrow path =
        ap (list_all (λ (q : QueueRow). q.running)) (filter_mapped (λ (q : QueueRow). is_under q.path path) (first_of_queue K) c.settings.queues)
        ∙ all_same (first_of_queue K) (λ (q : QueueRow). q.running) (λ (q : QueueRow). q.running) (filter (λ (q : QueueRow). is_under q.path path) c.settings.queues) (λ q m. refl)

    registered_narrow : (n : ℕ) → holds_of (λ (a : App). a.registered) (app_at (narrow c) n) ≡ holds_of (λ (a : App). a.registered) (app_at c n)
    registered_narrow n = ap (holds_of (λ (a : App). a.registered)) (app_narrow c n) ∙ holds_mapped (narrow_app K) (λ (a : App). a.registered) (app_at c n)

    pub totals_narrow : total_of_nodes (narrow c) ≡ take K (total_of_nodes c)
    totals_narrow = sum_mapped K (λ (x : ClusterNode). true) (λ x. x.total) (narrow_node K) c.nodes.present ∙ sums_narrow K (λ (x : ClusterNode). true) (λ x. x.total) c.nodes.present

    pub of_app_narrow : (n : ℕ) → containers_of (narrow c).nodes n ≡ map (narrow_container K) (containers_of c.nodes n)
    of_app_narrow n = filter_mapped (λ (x : Container). x.app == n) (narrow_container K) c.nodes.live

    pub on_node_narrow : (n : ℕ) → containers_on (narrow c).nodes n ≡ map (narrow_container K) (containers_on c.nodes n)
    on_node_narrow n = filter_mapped (λ (x : Container). x.node == n) (narrow_container K) c.nodes.live

    pub repeated_narrow : (n id : ℕ) → is_repeated_allocate (narrow c) n id ≡ is_repeated_allocate c n id
    repeated_narrow n id =
        ap (holds_of (λ (a : App). repeats a.response (is_some a.kept) id)) (app_narrow c n)
        ∙ holds_mapped (narrow_app K) (λ (a : App). repeats a.response (is_some a.kept) id) (app_at c n)
        ∙ (λ i. holds_of (λ (a : App). repeats a.response (some_mapped (narrow_allocate_reply K) a.kept i) id) (app_at c n))

    bad_narrow : (n id : ℕ) → holds_of (λ (a : App). is_bad a.response (is_some a.kept) id) (app_at (narrow c) n) ≡ holds_of (λ (a : App). is_bad a.response (is_some a.kept) id) (app_at c n)
    bad_narrow n id =
        ap (holds_of (λ (a : App). is_bad a.response (is_some a.kept) id)) (app_narrow c n)
        ∙ holds_mapped (narrow_app K) (λ (a : App). is_bad a.response (is_some a.kept) id) (app_at c n)
        ∙ (λ i. holds_of (λ (a : App). is_bad a.response (some_mapped (narrow_allocate_reply K) a.kept i) id) (app_at c n))

    pub repeated_beat : (n id : ℕ) → is_repeated_heartbeat (narrow c) n id ≡ is_repeated_heartbeat c n id
    repeated_beat n id =
        ap (holds_of (λ (x : ClusterNode). repeats x.response (is_some x.kept) id)) (node_narrow n)
        ∙ holds_mapped (narrow_node K) (λ (x : ClusterNode). repeats x.response (is_some x.kept) id) (node_at c n)

    bad_beat : (n id : ℕ) → holds_of (λ (x : ClusterNode). is_bad x.response (is_some x.kept) id) (node_at (narrow c) n) ≡ holds_of (λ (x : ClusterNode). is_bad x.response (is_some x.kept) id) (node_at c n)
    bad_beat n id =
        ap (holds_of (λ (x : ClusterNode). is_bad x.response (is_some x.kept) id)) (node_narrow n)
        ∙ holds_mapped (narrow_node K) (λ (x : ClusterNode). is_bad x.response (is_some x.kept) id) (node_at c n)

    -- ---- refusals
    large_narrow : (asks : List Ask) → WantNone K asks → list_any (is_too_large (narrow c)) (map (narrow_ask K) asks) ≡ list_any (is_too_large c) asks
    large_narrow asks e =
        any_same (narrow_ask K) (is_too_large (narrow c)) (is_too_large c) asks (λ ask m. ap (λ b. nat_le 1 ask.count && not b) (fits_narrow K ask.resource c.settings.maximum_allocation (each_of (λ (x : Ask). EndsInNone K x.resource) asks e ask m)))

    keys_narrow : (n : ℕ) (asks : List Ask) → holds_of (λ (a : App). has_too_many_keys a (map (narrow_ask K) asks)) (app_at (narrow c) n) ≡ holds_of (λ (a : App). has_too_many_keys a asks) (app_at c n)
    keys_narrow n asks =
        ap (holds_of (λ (a : App). has_too_many_keys a (map (narrow_ask K) asks))) (app_narrow c n)
        ∙ holds_mapped (narrow_app K) (λ (a : App). has_too_many_keys a (map (narrow_ask K) asks)) (app_at c n)
        ∙ (λ i. holds_of (λ (a : App). nat_lt keys_max ((ap length (puts_narrow K asks a.asks) ∙ length-map (fold (λ kept ask. put_ask ask kept) a.asks asks) (narrow_ask K)) i)) (app_at c n))

    totals_end : HasNone c → EndsInNone K (total_of_nodes c)
    totals_end none =
        ends_within K (part (λ (x : ClusterNode). true) (λ x. x.total) c.nodes.present)
        (sum_of_zeros (λ (x : ClusterNode). amount x.total K) c.nodes.present (λ x m. (each_of (λ (y : ClusterNode). EndsInNone K y.total) c.nodes.present none.nodes x m).none))

    too_large_narrow : HasNone c → (total : List ℕ) → EndsInNone K total → is_within amount_max (plus (total_of_nodes (narrow c)) (take K total)) ≡ is_within amount_max (plus (total_of_nodes c) total)
    too_large_narrow none total e =
        let t = totals_end none in
        ap (λ v. is_within amount_max (plus v (take K total))) totals_narrow
        ∙ ap (is_within amount_max) (plus_narrow K (total_of_nodes c) total)
        ∙ within_narrow amount_max K (plus (total_of_nodes c) total) (record {
          count = length-plus (total_of_nodes c) total (t.count ∙ sym e.count) ∙ t.count;
          none = let x = amount-plus (total_of_nodes c) total K in let a = t.none in let b = e.none in omega (arith, x, a, b);
        })

    pub refusal_narrow : HasNone c → (request : Request (suc K)) → AsksNone request → refusal_of (narrow c) (narrow_request request) ≡ refusal_of c request
    refusal_narrow none (Request.Submit path user) a = λ i. earliest (
        (no_queue path i, Refusal.UnknownQueue)
        ∷ (children_narrow path i, Refusal.NotLeaf)
        ∷ (not (running_narrow path i), Refusal.QueueStopped)
        ∷ (nat_le c.settings.application_limit (length-map c.apps.active (narrow_app K) i), Refusal.TooManyApplications)
        ∷ (nat_le number_end c.apps.next, Refusal.NumbersSpent)
        ∷ [])
    refusal_narrow none (Request.RegisterMaster n) a = λ i. earliest ((no_app n i, Refusal.UnknownApplication) ∷ (registered_narrow n i, Refusal.AlreadyRegistered) ∷ [])
    refusal_narrow none (Request.Allocate n id asks releases) a = λ i. earliest (
        (no_app n i, Refusal.UnknownApplication)
        ∷ (not (registered_narrow n i), Refusal.NotRegistered)
        ∷ (bad_narrow n id i, Refusal.BadResponseId)
        ∷ (not (repeated_narrow n id i) && large_narrow asks a i, Refusal.AskTooLarge)
        ∷ (not (repeated_narrow n id i) && keys_narrow n asks i, Refusal.TooManyAsks)
        ∷ [])
    refusal_narrow none (Request.FinishMaster n) a = λ i. earliest ((no_app n i, Refusal.UnknownApplication) ∷ (not (registered_narrow n i), Refusal.NotRegistered) ∷ [])
    refusal_narrow none (Request.RegisterNode host rack total) a = λ i. earliest (
        (any_same (narrow_node K) (λ (x : ClusterNode). bytes_eq x.host host) (λ (x : ClusterNode). bytes_eq x.host host) c.nodes.present (λ x m. refl) i, Refusal.HostTaken)
        ∷ (not (too_large_narrow none total a i), Refusal.TotalTooLarge)
        ∷ (nat_le nodes_max (length-map c.nodes.present (narrow_node K) i), Refusal.TooManyNodes)
        ∷ (zero_narrow K total a i, Refusal.ZeroResource)
        ∷ (nat_le number_end c.nodes.next_node, Refusal.NumbersSpent)
        ∷ [])
    refusal_narrow none (Request.Heartbeat n id ended) a = λ i. earliest ((bad_beat n id i, Refusal.BadResponseId) ∷ (no_node n i, Refusal.UnknownNode) ∷ [])
    refusal_narrow none (Request.NodeGone n) a = λ i. earliest ((no_node n i, Refusal.UnknownNode) ∷ [])
    refusal_narrow none (Request.QueueInfo path) a = λ i. earliest ((no_queue path i, Refusal.UnknownQueue) ∷ [])
    refusal_narrow none (Request.SetQueueState path running) a = λ i. earliest ((no_queue path i, Refusal.UnknownQueue) ∷ [])
    refusal_narrow none Request.ClusterInfo a = refl
    refusal_narrow none (Request.Refresh text) a = refresh_refused text c

    pub grow_narrow : (request : Request (suc K)) → may_grow (narrow c) (narrow_request request) ≡ may_grow c request
    grow_narrow (Request.Allocate n id asks releases) = ap not (repeated_narrow n id)
    grow_narrow (Request.Heartbeat n id ended) = ap not (repeated_beat n id)
    grow_narrow (Request.Submit path user) = refl
    grow_narrow (Request.RegisterMaster n) = refl
    grow_narrow (Request.FinishMaster n) = refl
    grow_narrow (Request.RegisterNode host rack total) = refl
    grow_narrow (Request.NodeGone n) = refl
    grow_narrow (Request.QueueInfo path) = refl
    grow_narrow (Request.SetQueueState path running) = refl
    grow_narrow Request.ClusterInfo = refl
    grow_narrow (Request.Refresh text) = refl

    pub early_narrow : HasNone c → (request : Request (suc K)) → AsksNone request → early_refusal (narrow c) (narrow_request request) ≡ early_refusal c request
    early_narrow none (Request.Refresh text) a = refl
    early_narrow none (Request.Submit path user) a = refusal_narrow none (Request.Submit path user) a
    early_narrow none (Request.RegisterMaster n) a = refusal_narrow none (Request.RegisterMaster n) a
    early_narrow none (Request.Allocate n id asks releases) a = refusal_narrow none (Request.Allocate n id asks releases) a
    early_narrow none (Request.FinishMaster n) a = refusal_narrow none (Request.FinishMaster n) a
    early_narrow none (Request.RegisterNode host rack total) a = refusal_narrow none (Request.RegisterNode host rack total) a
    early_narrow none (Request.Heartbeat n id ended) a = refusal_narrow none (Request.Heartbeat n id ended) a
    early_narrow none (Request.NodeGone n) a = refusal_narrow none (Request.NodeGone n) a
    early_narrow none (Request.QueueInfo path) a = refusal_narrow none (Request.QueueInfo path) a
    early_narrow none (Request.SetQueueState path running) a = refusal_narrow none (Request.SetQueueState path running) a
    early_narrow none Request.ClusterInfo a = refusal_narrow none Request.ClusterInfo a
