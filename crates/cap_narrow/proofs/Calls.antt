-- What calls reply and leave, without the last resource.
use Rattle.cap_narrow.proofs.Prelude.{◌≡◌, ℕ, suc, ◌+◌, ◌-◌, Bool, true, false, List, [], ◌∷◌, length, take, refl, sym, ◌∙◌, ap, arith, Option, Some, None, not, ◌==◌, map, filter, cond, option_map, option_and_then, unwrap_or, bytes_eq, if◌then◌else◌, All-nil, All-push, All-filter, map-append, length-map, take-map, drop-map, take-replicate, zeros, QueueRow, news_max, Ask, Cause, Request, AllocateReply, is_under, root_path, first_of_queue, Flat, App, ClusterNode, Container, Reservation, app_at, node_at, queue_at, containers_of, containers_on, with_app, with_node, is_among, named_among, after_ends, after_asks, new_app, is_repeated_allocate, released_by, after_processed_allocate, after_allocate, after_telling, news_report, kept_reply, nothing_told, after_finish_master, new_node, is_repeated_heartbeat, ended_by, beat_of, after_processed_heartbeat, after_heartbeat, no_beat, without_node, queue_report, cluster_report, granted_reply, granted_cluster, filter_mapped, sum_by_map, EndsInNone, narrow, narrow_ask, narrow_app, narrow_grant, narrow_allocate_reply, narrow_node, narrow_container, narrow_reservation, WantNone, HasNone, narrow_request, narrow_reply, narrow_queue_report, narrow_cluster_report, AsksNone}
use Rattle.cap_model.specs.declared.reply.ReplyWith.TheVariants as Reply
use Rattle.cap_narrow.proofs.Lists.{change_meets, all_changed_if}
use Rattle.cap_narrow.proofs.Sights.{app_narrow, queue_use_narrow}
use Rattle.cap_narrow.proofs.Changes.{named_narrow, live_narrow, after_ends_narrow, with_app_narrow, with_node_narrow, none_with_app, none_with_node, none_after_ends}
use Rattle.cap_narrow.proofs.Asking.{asks_narrow}
use Rattle.cap_narrow.proofs.Refreshing.{refreshed_narrow, none_refreshed}
use Rattle.cap_narrow.proofs.Refusals.{queue_narrow, node_narrow, children_narrow, running_narrow, totals_narrow, of_app_narrow, on_node_narrow, repeated_narrow, repeated_beat}

module _ {K : ℕ} where
  module _ (c : Flat (suc K)) where
    -- ---- an allocate
    released_narrow : (n : ℕ) (releases : List ℕ) → released_by (narrow c) n releases ≡ map (narrow_container K) (released_by c n releases)
    released_narrow n releases = ap (named_among releases) (of_app_narrow c n) ∙ named_narrow K releases (containers_of c.nodes n)

    telling_narrow : (id ignored : ℕ) (a : App) → after_telling id ignored (narrow_app K a) ≡ narrow_app K (after_telling id ignored a)
    telling_narrow id ignored a = λ i. record (after_telling id ignored (narrow_app K a)) {
      kept = Some (record (news_report id ignored (narrow_app K a)) { grants = take-map (narrow_grant K) news_max a.grants i });
      grants = drop-map (narrow_grant K) news_max a.grants i;
    }

    processed_narrow : HasNone c → (n id : ℕ) (asks : List Ask) (releases : List ℕ) → WantNone K asks →
        after_processed_allocate (narrow c) n id (map (narrow_ask K) asks) releases ≡ narrow (after_processed_allocate c n id asks releases)
    processed_narrow none n id asks releases e =
        let r = asks_narrow n asks c none e in
        let gone = released_by c n releases in
        let asked = after_asks n asks c in
        (λ i. with_app n (after_telling id (length releases - length (released_narrow n releases i))) (after_ends Cause.Released (released_narrow n releases i) (r.0 i)))
        ∙ (λ i. with_app n (after_telling id (length releases - length-map gone (narrow_container K) i)) (after_ends_narrow Cause.Released gone asked i))
        ∙ with_app_narrow n (after_telling id (length releases - length gone)) (after_telling id (length releases - length gone)) (telling_narrow id (length releases - length gone)) (after_ends Cause.Released gone asked)

    none_processed : HasNone c → (n id : ℕ) (asks : List Ask) (releases : List ℕ) → WantNone K asks → HasNone (after_processed_allocate c n id asks releases)
    none_processed none n id asks releases e =
        let gone = released_by c n releases in
        let r = asks_narrow n asks c none e in
        none_with_app n (after_telling id (length releases - length gone)) (λ a e. e) (after_ends Cause.Released gone (after_asks n asks c)) (none_after_ends Cause.Released gone (after_asks n asks c) r.1)

    allocated_narrow : HasNone c → (n id : ℕ) (asks : List Ask) (releases : List ℕ) → WantNone K asks → after_allocate (narrow c) n id (map (narrow_ask K) asks) releases ≡ narrow (after_allocate c n id asks releases)
    allocated_narrow none n id asks releases e =
        ap (λ b. if b then narrow c else after_processed_allocate (narrow c) n id (map (narrow_ask K) asks) releases) (repeated_narrow c n id) ∙ by (is_repeated_allocate c n id)
      where
        by : (b : Bool) → (if b then narrow c else after_processed_allocate (narrow c) n id (map (narrow_ask K) asks) releases) ≡ narrow (if b then c else after_processed_allocate c n id asks releases)
        by true = refl
        by false = processed_narrow none n id asks releases e

    none_allocated : HasNone c → (n id : ℕ) (asks : List Ask) (releases : List ℕ) → WantNone K asks → HasNone (after_allocate c n id asks releases)
    none_allocated none n id asks releases e = by (is_repeated_allocate c n id)
      where
        by : (b : Bool) → HasNone (if b then c else after_processed_allocate c n id asks releases)
        by true = none
        by false = none_processed none n id asks releases e

    -- ---- the end of a master, of a node; a heartbeat
    finished_narrow : (n : ℕ) → after_finish_master (narrow c) n ≡ narrow (after_finish_master c n)
    finished_narrow n = λ i. record (narrow c) {
      apps = record (narrow c).apps { active = filter_mapped (λ (a : App). not (a.number == n)) (narrow_app K) c.apps.active i };
      nodes = record (narrow c).nodes {
        live = (ap (λ gone. filter (λ x. not (is_among gone x)) (map (narrow_container K) c.nodes.live)) (of_app_narrow c n) ∙ live_narrow K (containers_of c.nodes n) c.nodes.live) i;
        reserved = filter_mapped (λ (r : Reservation). not (r.app == n)) (narrow_reservation K) c.nodes.reserved i;
      };
    }

    dropped_narrow : (n : ℕ) → without_node n (narrow c) ≡ narrow (without_node n c)
    dropped_narrow n = λ i. record (narrow c) {
      nodes = record (narrow c).nodes {
        present = filter_mapped (λ (x : ClusterNode). not (x.number == n)) (narrow_node K) c.nodes.present i;
        reserved = filter_mapped (λ (r : Reservation). not (r.node == n)) (narrow_reservation K) c.nodes.reserved i;
      };
    }

    none_dropped : (n : ℕ) → HasNone c → HasNone (without_node n c)
    none_dropped n none = record {
      settings = none.settings;
      asks = none.asks;
      nodes = All-filter (λ x. not (x.number == n)) (λ (x : ClusterNode). EndsInNone K x.total) c.nodes.present none.nodes;
      live = none.live;
      reserved = All-filter (λ r. not (r.node == n)) (λ (r : Reservation). EndsInNone K r.resource) c.nodes.reserved none.reserved;
    }

    ended_narrow : (n : ℕ) (ended : List ℕ) → ended_by (narrow c) n ended ≡ map (narrow_container K) (ended_by c n ended)
    ended_narrow n ended = ap (named_among ended) (on_node_narrow c n) ∙ named_narrow K ended (containers_on c.nodes n)

    beat_narrow : (n id : ℕ) (ended : List ℕ) → beat_of (narrow c) n id ended ≡ beat_of c n id ended
    beat_narrow n id ended = λ i. record (beat_of c n id ended) {
      ignored = length ended - (ap length (ended_narrow n ended) ∙ length-map (ended_by c n ended) (narrow_container K)) i;
      live = (ap length (on_node_narrow c n) ∙ length-map (containers_on c.nodes n) (narrow_container K)) i - (ap length (ended_narrow n ended) ∙ length-map (ended_by c n ended) (narrow_container K)) i;
    }

    beaten_narrow : (n id : ℕ) (ended : List ℕ) → after_processed_heartbeat (narrow c) n id ended ≡ narrow (after_processed_heartbeat c n id ended)
    beaten_narrow n id ended =
        let gone = ended_by c n ended in
        (λ i. with_node n (λ (x : ClusterNode). record x { response = (beat_narrow n id ended i).response; kept = Some (beat_narrow n id ended i) }) (after_ends Cause.EndedOnNode (ended_narrow n ended i) (narrow c)))
        ∙ ap (with_node n (λ (x : ClusterNode). record x { response = (beat_of c n id ended).response; kept = Some (beat_of c n id ended) })) (after_ends_narrow Cause.EndedOnNode gone c)
        ∙ with_node_narrow n (λ (x : ClusterNode). record x { response = (beat_of c n id ended).response; kept = Some (beat_of c n id ended) }) (λ x. refl) (after_ends Cause.EndedOnNode gone c)

    heard_narrow : (n id : ℕ) (ended : List ℕ) → after_heartbeat (narrow c) n id ended ≡ narrow (after_heartbeat c n id ended)
    heard_narrow n id ended =
        ap (λ b. if b then narrow c else after_processed_heartbeat (narrow c) n id ended) (repeated_beat c n id) ∙ by (is_repeated_heartbeat c n id)
      where
        by : (b : Bool) → (if b then narrow c else after_processed_heartbeat (narrow c) n id ended) ≡ narrow (if b then c else after_processed_heartbeat c n id ended)
        by true = refl
        by false = beaten_narrow n id ended

    none_heard : HasNone c → (n id : ℕ) (ended : List ℕ) → HasNone (after_heartbeat c n id ended)
    none_heard none n id ended = by (is_repeated_heartbeat c n id)
      where
        by : (b : Bool) → HasNone (if b then c else after_processed_heartbeat c n id ended)
        by true = none
        by false =
            none_with_node n (λ (x : ClusterNode). record x { response = (beat_of c n id ended).response; kept = Some (beat_of c n id ended) }) (λ x e. e)
            (after_ends Cause.EndedOnNode (ended_by c n ended) c) (none_after_ends Cause.EndedOnNode (ended_by c n ended) c none)

    -- ---- reports
    report_narrow : (path : List ℕ) → queue_report (narrow c) path ≡ narrow_queue_report (queue_report c path)
    report_narrow path = λ i. record {
      running = running_narrow c path i;
      leaf = not (children_narrow c path i);
      guaranteed = (ap (λ o. unwrap_or (option_map (λ (q : QueueRow). q.guaranteed) o) (zeros K)) (queue_narrow c path) ∙ guaranteed_of (queue_at c path)) i;
      maximum = (ap (option_and_then (λ (q : QueueRow). q.maximum)) (queue_narrow c path) ∙ maximum_of (queue_at c path)) i;
      used = queue_use_narrow c path i;
      apps = sum_by_map (narrow_app K) (λ (a : App). cond (is_under path a.leaf) 1 0) c.apps.active i;
    }
      where
        guaranteed_of : (o : Option QueueRow) → unwrap_or (option_map (λ (q : QueueRow). q.guaranteed) (option_map (first_of_queue K) o)) (zeros K) ≡ take K (unwrap_or (option_map (λ (q : QueueRow). q.guaranteed) o) (zeros (suc K)))
        guaranteed_of None = sym (take-replicate K (suc K) 0 (omega arith))
        guaranteed_of (Some q) = refl

        maximum_of : (o : Option QueueRow) → option_and_then (λ (q : QueueRow). q.maximum) (option_map (first_of_queue K) o) ≡ option_map (take K) (option_and_then (λ (q : QueueRow). q.maximum) o)
        maximum_of None = refl
        maximum_of (Some q) = refl

    cluster_narrow : cluster_report (narrow c) ≡ narrow_cluster_report (cluster_report c)
    cluster_narrow = λ i. record {
      nodes = length-map c.nodes.present (narrow_node K) i;
      apps = length-map c.apps.active (narrow_app K) i;
      containers = length-map c.nodes.live (narrow_container K) i;
      totals = totals_narrow c i;
      used = queue_use_narrow c root_path i;
    }

    kept_narrow : (n : ℕ) → kept_reply (narrow c) n ≡ narrow_allocate_reply K (kept_reply c n)
    kept_narrow n = ap (λ o. unwrap_or (option_and_then (λ (a : App). a.kept) o) nothing_told) (app_narrow c n) ∙ by (app_at c n)
      where
        told : (o : Option AllocateReply) → unwrap_or (option_map (narrow_allocate_reply K) o) nothing_told ≡ narrow_allocate_reply K (unwrap_or o nothing_told)
        told None = refl
        told (Some r) = refl

        by : (o : Option App) → unwrap_or (option_and_then (λ (a : App). a.kept) (option_map (narrow_app K) o)) nothing_told ≡ narrow_allocate_reply K (unwrap_or (option_and_then (λ (a : App). a.kept) o) nothing_told)
        by None = refl
        by (Some a) = told a.kept

    beat_kept : (n : ℕ) → unwrap_or (option_and_then (λ (x : ClusterNode). x.kept) (node_at (narrow c) n)) no_beat ≡ unwrap_or (option_and_then (λ (x : ClusterNode). x.kept) (node_at c n)) no_beat
    beat_kept n = ap (λ o. unwrap_or (option_and_then (λ (x : ClusterNode). x.kept) o) no_beat) (node_narrow c n) ∙ by (node_at c n)
      where
        by : (o : Option ClusterNode) → unwrap_or (option_and_then (λ (x : ClusterNode). x.kept) (option_map (narrow_node K) o)) no_beat ≡ unwrap_or (option_and_then (λ (x : ClusterNode). x.kept) o) no_beat
        by None = refl
        by (Some x) = refl

  -- ---- all calls
  module _ (c : Flat (suc K)) (none : HasNone c) where
    pub cluster_after : (request : Request (suc K)) → AsksNone request → granted_cluster (narrow c) (narrow_request request) ≡ narrow (granted_cluster c request)
    cluster_after (Request.Submit path user) a =
        λ i. record (narrow c) { apps = record (narrow c).apps { active = sym (map-append (narrow_app K) c.apps.active (new_app c.apps.next path user ∷ [])) i; next = c.apps.next + 1 } }
    cluster_after (Request.RegisterMaster n) a = with_app_narrow n (λ (x : App). record x { registered = Bool.true }) (λ (x : App). record x { registered = Bool.true }) (λ x. refl) c
    cluster_after (Request.Allocate n id asks releases) a = allocated_narrow c none n id asks releases a
    cluster_after (Request.FinishMaster n) a = finished_narrow c n
    cluster_after (Request.RegisterNode host rack total) a =
        λ i. record (narrow c) { nodes = record (narrow c).nodes { present = sym (map-append (narrow_node K) c.nodes.present (new_node c.nodes.next_node host rack total ∷ [])) i; next_node = c.nodes.next_node + 1 } }
    cluster_after (Request.Heartbeat n id ended) a = heard_narrow c n id ended
    cluster_after (Request.NodeGone n) a =
        ap (λ gone. without_node n (after_ends Cause.NodeLost gone (narrow c))) (on_node_narrow c n)
        ∙ ap (without_node n) (after_ends_narrow Cause.NodeLost (containers_on c.nodes n) c)
        ∙ dropped_narrow (after_ends Cause.NodeLost (containers_on c.nodes n) c) n
    cluster_after (Request.QueueInfo path) a = refl
    cluster_after (Request.SetQueueState path running) a =
        λ i. record (narrow c) {
          settings = record (narrow c).settings {
            queues = change_meets (first_of_queue K) (λ (q : QueueRow). record q { running = running }) (λ (q : QueueRow). record q { running = running }) (λ (q : QueueRow). bytes_eq q.path path) (λ q. refl) (λ q. refl) c.settings.queues i;
          };
        }
    cluster_after Request.ClusterInfo a = refl
    cluster_after (Request.Refresh text) a = refreshed_narrow text c

    pub none_after : (request : Request (suc K)) → AsksNone request → HasNone (granted_cluster c request)
    none_after (Request.Submit path user) a = record {
      settings = none.settings;
      asks = All-push (λ (app : App). WantNone K app.asks) c.apps.active (new_app c.apps.next path user) none.asks (All-nil (λ (ask : Ask). EndsInNone K ask.resource));
      nodes = none.nodes;
      live = none.live;
      reserved = none.reserved;
    }
    none_after (Request.RegisterMaster n) a = none_with_app n (λ (x : App). record x { registered = Bool.true }) (λ x e. e) c none
    none_after (Request.Allocate n id asks releases) a = none_allocated c none n id asks releases a
    none_after (Request.FinishMaster n) a = record {
      settings = none.settings;
      asks = All-filter (λ x. not (x.number == n)) (λ (app : App). WantNone K app.asks) c.apps.active none.asks;
      nodes = none.nodes;
      live = All-filter (λ x. not (is_among (containers_of c.nodes n) x)) (λ (x : Container). EndsInNone K x.resource) c.nodes.live none.live;
      reserved = All-filter (λ r. not (r.app == n)) (λ (r : Reservation). EndsInNone K r.resource) c.nodes.reserved none.reserved;
    }
    none_after (Request.RegisterNode host rack total) a = record {
      settings = none.settings;
      asks = none.asks;
      nodes = All-push (λ (x : ClusterNode). EndsInNone K x.total) c.nodes.present (new_node c.nodes.next_node host rack total) none.nodes a;
      live = none.live;
      reserved = none.reserved;
    }
    none_after (Request.Heartbeat n id ended) a = none_heard c none n id ended
    none_after (Request.NodeGone n) a = none_dropped (after_ends Cause.NodeLost (containers_on c.nodes n) c) n (none_after_ends Cause.NodeLost (containers_on c.nodes n) c none)
    none_after (Request.QueueInfo path) a = none
    none_after (Request.SetQueueState path running) a = record {
      settings = record {
        minimum = none.settings.minimum;
        guarantees = all_changed_if (λ (q : QueueRow). length q.guaranteed ≡ suc K) (λ q. bytes_eq q.path path) (λ q. record q { running = running }) (λ q e. e) c.settings.queues none.settings.guarantees;
      };
      asks = none.asks;
      nodes = none.nodes;
      live = none.live;
      reserved = none.reserved;
    }
    none_after Request.ClusterInfo a = none
    none_after (Request.Refresh text) a = none_refreshed text c none a

    pub reply_narrow : (request : Request (suc K)) → AsksNone request → granted_reply (narrow c) (narrow_request request) ≡ narrow_reply (granted_reply c request)
    reply_narrow (Request.Submit path user) a = refl
    reply_narrow (Request.RegisterMaster n) a = refl
    reply_narrow (Request.Allocate n id asks releases) a =
        ap (λ x. Reply.Allocate (kept_reply x n)) (allocated_narrow c none n id asks releases a)
        ∙ ap (λ r. Reply.Allocate r) (kept_narrow (after_allocate c n id asks releases) n)
    reply_narrow (Request.FinishMaster n) a = ap (λ n. Reply.FinishMaster n) (ap length (of_app_narrow c n) ∙ length-map (containers_of c.nodes n) (narrow_container K))
    reply_narrow (Request.RegisterNode host rack total) a = refl
    reply_narrow (Request.Heartbeat n id ended) a =
        ap (λ (x : Flat K). Reply.Heartbeat (unwrap_or (option_and_then (λ (y : ClusterNode). y.kept) (node_at x n)) no_beat)) (heard_narrow c n id ended)
        ∙ ap (λ b. Reply.Heartbeat b) (beat_kept (after_heartbeat c n id ended) n)
    reply_narrow (Request.NodeGone n) a = ap (λ n. Reply.NodeGone n) (ap length (on_node_narrow c n) ∙ length-map (containers_on c.nodes n) (narrow_container K))
    reply_narrow (Request.QueueInfo path) a = ap (λ r. Reply.QueueInfo r) (report_narrow c path)
    reply_narrow (Request.SetQueueState path running) a = refl
    reply_narrow Request.ClusterInfo a = ap (λ r. Reply.ClusterInfo r) (cluster_narrow c)
    reply_narrow (Request.Refresh text) a = refl
