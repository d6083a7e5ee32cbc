-- A run without the last resource.
use Rattle.cap_narrow.proofs.Prelude.{◌≡◌, ℕ, suc, ◌+◌, List, [], ◌∷◌, ◌++◌, refl, sym, ◌∙◌, ap, subst, inl, inr, Option, Some, None, ◌==◌, not, map, option_map, unwrap_or, All-head, All-tail, All-push, All-filter, map-append, Reply, Refusal, Request, Flat, App, ClusterNode, Container, Reservation, node_at, sight_of, NodeProposal, IsAdmissible, reason_of, rejected_exactly, Replies, refusal_of, granted_reply, granted_cluster, reply_to, after_request, refused_or, Event, Step, Run, after_grant, after_reserve, news_of, take_one, grant_proposal, reserve_proposal, filter_mapped, EndsInNone, narrow, narrow_proposal, narrow_app, narrow_grant, narrow_node, narrow_container, narrow_reservation, WantNone, HasNone, narrow_request, narrow_reply, narrow_event, AsksNone, EventAsksNone, CallsAskNone, RunsNarrow}
use Rattle.cap_model.specs.declared.reply.ReplyWith.TheVariants as Reply
use Rattle.cap_narrow.proofs.Lists.{change_meets, all_changed_if}
use Rattle.cap_narrow.proofs.Sights.{sights_narrow, sights_show_none}
use Rattle.cap_narrow.proofs.Reasons.{asked_ends, reasons_narrow}
use Rattle.cap_narrow.proofs.Asking.{one_narrow, none_taken}
use Rattle.cap_narrow.proofs.Refusals.{node_narrow, refusal_narrow, grow_narrow, early_narrow}
use Rattle.cap_narrow.proofs.Calls.{cluster_after, none_after, reply_narrow}

module _ {K : ℕ} where
  -- ---- calls
  reply_is : (c : Flat (suc K)) → HasNone c → (request : Request (suc K)) → AsksNone request → reply_to (narrow c) (narrow_request request) ≡ narrow_reply (reply_to c request)
  reply_is c none request a =
      (λ i. refused_or (refusal_narrow c none request a i) (λ refusal. Reply.Refused refusal) (reply_narrow c none request a i)) ∙ by (refusal_of c request)
    where
      by : (o : Option Refusal) → refused_or o (λ refusal. Reply.Refused refusal) (narrow_reply (granted_reply c request)) ≡ narrow_reply (refused_or o (λ refusal. Reply.Refused refusal) (granted_reply c request))
      by None = refl
      by (Some refusal) = refl

  after_is : (c : Flat (suc K)) → HasNone c → (request : Request (suc K)) → AsksNone request → after_request (narrow c) (narrow_request request) ≡ narrow (after_request c request)
  after_is c none request a =
      (λ i. refused_or (refusal_narrow c none request a i) (λ refusal. narrow c) (cluster_after c none request a i)) ∙ by (refusal_of c request)
    where
      by : (o : Option Refusal) → refused_or o (λ refusal. narrow c) (narrow (granted_cluster c request)) ≡ narrow (refused_or o (λ refusal. c) (granted_cluster c request))
      by None = refl
      by (Some refusal) = refl

  none_is : (c : Flat (suc K)) → HasNone c → (request : Request (suc K)) → AsksNone request → HasNone (after_request c request)
  none_is c none request a = by (refusal_of c request)
    where
      by : (o : Option Refusal) → HasNone (refused_or o (λ refusal. c) (granted_cluster c request))
      by None = none_after c none request a
      by (Some refusal) = none

  call_narrow : (old new : Flat (suc K)) → HasNone old → (request : Request (suc K)) (reply : Reply (suc K)) → AsksNone request → Replies old request reply new →
      Replies (narrow old) (narrow_request request) (narrow_reply reply) (narrow new) × HasNone new
  call_narrow old new none request reply a (inl (r, c)) =
      (inl (ap narrow_reply r ∙ sym (reply_is old none request a), ap narrow c ∙ sym (after_is old none request a)), subst HasNone (sym c) (none_is old none request a))
  call_narrow old new none request reply a (inr (l, c)) = (
    inr (
      record {
        grows = grow_narrow old request ∙ l.grows;
        unrefused = early_narrow old none request a ∙ l.unrefused;
        reply_is = ap narrow_reply l.reply_is;
      },
      ap narrow c,
    ),
    subst HasNone (sym c) none,
  )

  -- ---- grants and reservations
  admissible_narrow : (old : Flat (suc K)) → HasNone old → (p : NodeProposal) → EndsInNone K p.resource → IsAdmissible (sight_of old) p → IsAdmissible (sight_of (narrow old)) (narrow_proposal K p)
  admissible_narrow old none p e a =
      let before : reason_of (sight_of old) p ≡ None = (rejected_exactly (suc K) (sight_of old) p).1 a in
      let same : reason_of (sight_of (narrow old)) (narrow_proposal K p) ≡ reason_of (sight_of old) p =
      ap (λ s. reason_of s (narrow_proposal K p)) (sights_narrow K old) ∙ reasons_narrow K (sight_of old) p (sights_show_none K old none) e in
      (rejected_exactly K (sight_of (narrow old)) (narrow_proposal K p)).0 (same ∙ before)

  news_is : (old : Flat (suc K)) (c : Container) → news_of (narrow old) (narrow_container K c) ≡ narrow_grant K (news_of old c)
  news_is old c = ap (λ host. record (narrow_grant K (news_of old c)) { host = host }) (ap (λ o. unwrap_or (option_map (λ (n : ClusterNode). n.host) o) []) (node_narrow old c.node) ∙ by (node_at old c.node))
    where
      by : (o : Option ClusterNode) → unwrap_or (option_map (λ (n : ClusterNode). n.host) (option_map (narrow_node K) o)) [] ≡ unwrap_or (option_map (λ (n : ClusterNode). n.host) o) []
      by None = refl
      by (Some n) = refl

  granted : (old : Flat (suc K)) (c : Container) → after_grant (narrow old) (narrow_container K c) ≡ narrow (after_grant old c)
  granted old c =
      (λ i. record (narrow old) {
        apps = record (narrow old).apps {
          active = change_meets (narrow_app K)
              (λ (a : App). record a { asks = take_one c.key a.asks; grants = a.grants ++ news_of (narrow old) (narrow_container K c) ∷ [] })
              (λ (a : App). record a { asks = take_one c.key a.asks; grants = a.grants ++ news_of old c ∷ [] })
              (λ (a : App). a.number == c.app) (λ a. refl)
              (λ a. λ j. record (narrow_app K a) {
                asks = one_narrow K c.key a.asks j;
                grants = (ap (λ g. map (narrow_grant K) a.grants ++ g ∷ []) (news_is old c) ∙ sym (map-append (narrow_grant K) a.grants (news_of old c ∷ []))) j;
              }) old.apps.active i;
        };
        nodes = record (narrow old).nodes {
          live = sym (map-append (narrow_container K) old.nodes.live (c ∷ [])) i;
          reserved = filter_mapped (λ (r : Reservation). not (r.node == c.node)) (narrow_reservation K) old.nodes.reserved i;
          next_container = old.nodes.next_container + 1;
        };
      })

  none_granted : (old : Flat (suc K)) → HasNone old → (c : Container) → EndsInNone K c.resource → HasNone (after_grant old c)
  none_granted old none c e = record {
    settings = none.settings;
    asks = all_changed_if (λ (a : App). WantNone K a.asks) (λ a. a.number == c.app) (λ a. record a { asks = take_one c.key a.asks; grants = a.grants ++ news_of old c ∷ [] })
        (λ a w. none_taken K c.key a.asks w) old.apps.active none.asks;
    nodes = none.nodes;
    live = All-push (λ (x : Container). EndsInNone K x.resource) old.nodes.live c none.live e;
    reserved = All-filter (λ r. not (r.node == c.node)) (λ (r : Reservation). EndsInNone K r.resource) old.nodes.reserved none.reserved;
  }

  reserved : (old : Flat (suc K)) (r : Reservation) → after_reserve (narrow old) (narrow_reservation K r) ≡ narrow (after_reserve old r)
  reserved old r = λ i. record (narrow old) { nodes = record (narrow old).nodes { reserved = sym (map-append (narrow_reservation K) old.nodes.reserved (r ∷ [])) i } }

  -- ---- steps and runs
  step_narrow : (old new : Flat (suc K)) (event : Event (suc K)) → HasNone old → EventAsksNone event → Step old event new → Step (narrow old) (narrow_event event) (narrow new) × HasNone new
  step_narrow old new (Event.Call by request reply) none a s = call_narrow old new none request reply a s
  step_narrow old new (Event.Grant c) none a (admissible, number, after) =
      let e = asked_ends (sight_of old) (sights_show_none K old none) (grant_proposal c) (admissible.0).resource in
      ((admissible_narrow old none (grant_proposal c) e admissible, number, ap narrow after ∙ sym (granted old c)), subst HasNone (sym after) (none_granted old none c e))
  step_narrow old new (Event.Reserve r) none a (admissible, after) =
      let e = asked_ends (sight_of old) (sights_show_none K old none) (reserve_proposal r) (admissible.0).resource in (
        (admissible_narrow old none (reserve_proposal r) e admissible, ap narrow after ∙ sym (reserved old r)),
        subst HasNone (sym after) (record {
          settings = none.settings;
          asks = none.asks;
          nodes = none.nodes;
          live = none.live;
          reserved = All-push (λ (x : Reservation). EndsInNone K x.resource) old.nodes.reserved r none.reserved e;
        }),
      )

  run_narrow : (events : List (Event (suc K))) (old new : Flat (suc K)) → HasNone old → CallsAskNone events → Run old events new → Run (narrow old) (map narrow_event events) (narrow new) × HasNone new
  run_narrow [] old new none a run = (ap narrow run, subst HasNone run none)
  run_narrow (event ∷ events) old new none a (mid, step, run) =
      let s = step_narrow old mid event none (All-head EventAsksNone event events a) step in
      let r = run_narrow events mid new s.1 (All-tail EventAsksNone event events a) run in
      ((narrow mid, s.0, r.0), r.1)

pub runs_narrow : RunsNarrow
runs_narrow K events old new none a run = run_narrow events old new none a run
