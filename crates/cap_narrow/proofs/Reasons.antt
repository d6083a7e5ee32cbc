-- Why a proposal is rejected, without the last resource.
use Rattle.cap_narrow.proofs.Prelude.{◌≡◌, ℕ, suc, ◌-◌, Bool, true, false, List, [], ◌∷◌, take, refl, sym, ◌∙◌, ap, subst, arith, Option, Some, None, is_none, is_some, not, ◌==◌, ◌&&◌, ◌||◌, nat_le, map, cond, count_by, position, option_map, option_and_then, unwrap_or, bytes_eq, if◌then◌else◌, All, list_all, bytes_eq-Decides, less, amounts_exchanged, amount-exchanged, length-plus, length-less, number_end, live_max, holds_of, earliest, fits, Ask, same_key, NoApp, NoAsk, OtherAsk, NoNode, WrongPlace, ReservedByOther, NoRoom, OverMaximum, OverUser, TooManyLive, FitsNow, NeverFits, NumbersSpent, is_under, Reservation, is_for, ask_at, Sight, QueueSight, AppSight, NodeSight, seen_app, seen_node, seen_queue, queues_to, still_wanted, fits_maximum, fits_user_limit, NodeProposal, is_grant, takes_place, proposed_ask, node_reservation, is_reserved_for, is_wanted, asks_resource, suits_place, fits_free, fits_total, room_replaced, use_after, leaf_path, user_name, stays_in_maximum, stays_in_maxima, broken_level, stays_in_user_limit, reason_of, IsIn, each_of, of_filter, found, find_mapped_at, filter_mapped, sum_by_map, EndsInNone, narrow_ask, narrow_reservation, narrow_sight, narrow_queue_sight, narrow_app_sight, narrow_node_sight, narrow_proposal, ShowsNone, ReasonsNarrow}
use Rattle.cap_narrow.proofs.Lists.{holds_mapped, holds_same, some_mapped, none_mapped, all_same, position_same}
use Rattle.cap_narrow.proofs.Vectors.{take_nothing, fits_narrow, maximum_narrow, exchanged_narrow, user_limit_narrow, same_narrow}

-- ---- a use after a proposal has none of the last resource
exchanged_ends : (K : ℕ) (old new v : List ℕ) → EndsInNone K new → EndsInNone K v → EndsInNone K (amounts_exchanged old new v)
exchanged_ends K old new v n e = record {
  count = length-plus (less v old) new (length-less v old ∙ e.count ∙ sym n.count) ∙ length-less v old ∙ e.count;
  none = let x = amount-exchanged old new v K in let a = e.none in let b = n.none in omega (arith, x, a, b);
}

module _ {K : ℕ} (sight : Sight (suc K)) where
  app_seen : (n : ℕ) → seen_app (narrow_sight sight) n ≡ option_map (narrow_app_sight K) (seen_app sight n)
  app_seen n = find_mapped_at (narrow_app_sight K) (λ (a : AppSight). a.number == n) sight.apps

  node_seen : (n : ℕ) → seen_node (narrow_sight sight) n ≡ option_map (narrow_node_sight K) (seen_node sight n)
  node_seen n = find_mapped_at (narrow_node_sight K) (λ (a : NodeSight). a.number == n) sight.nodes

  queue_seen : (path : List ℕ) → seen_queue (narrow_sight sight) path ≡ option_map (narrow_queue_sight K) (seen_queue sight path)
  queue_seen path = find_mapped_at (narrow_queue_sight K) (λ (q : QueueSight). bytes_eq q.row.path path) sight.queues

  pub way_seen : (leaf : List ℕ) → queues_to (narrow_sight sight) leaf ≡ map (narrow_queue_sight K) (queues_to sight leaf)
  way_seen leaf = filter_mapped (λ (q : QueueSight). is_under q.row.path leaf) (narrow_queue_sight K) sight.queues

  wanted_seen : (app : ℕ) (ask : Ask) → still_wanted (narrow_sight sight) app (narrow_ask K ask) ≡ still_wanted sight app ask
  wanted_seen app ask =
      ap (λ n. ask.count - n)
      (sum_by_map (narrow_node_sight K) (λ (n : NodeSight). cond (holds_of (is_for app ask.key) n.reservation) 1 0) sight.nodes
      ∙ (λ i. count_by (λ (n : NodeSight). holds_mapped (narrow_reservation K) (is_for app ask.key) n.reservation i) sight.nodes))

  pub leaf_seen : (p : NodeProposal) → leaf_path (narrow_sight sight) (narrow_proposal K p) ≡ leaf_path sight p
  leaf_seen p = ap (λ o. unwrap_or (option_map (λ (a : AppSight). a.leaf) o) []) (app_seen p.app) ∙ by (seen_app sight p.app)
    where
      by : (o : Option AppSight) → unwrap_or (option_map (λ (a : AppSight). a.leaf) (option_map (narrow_app_sight K) o)) [] ≡ unwrap_or (option_map (λ (a : AppSight). a.leaf) o) []
      by None = refl
      by (Some a) = refl

  module _ (none : ShowsNone sight) (p : NodeProposal) (ends : EndsInNone K p.resource) where
    ask_of : (o : Option AppSight) → option_and_then (λ (a : AppSight). ask_at p.key a.asks) (option_map (narrow_app_sight K) o) ≡ option_map (narrow_ask K) (option_and_then (λ (a : AppSight). ask_at p.key a.asks) o)
    ask_of None = refl
    ask_of (Some a) = find_mapped_at (narrow_ask K) (λ (ask : Ask). same_key ask.key p.key) a.asks

    ask_is : proposed_ask (narrow_sight sight) (narrow_proposal K p) ≡ option_map (narrow_ask K) (proposed_ask sight p)
    ask_is = ap (option_and_then (λ (a : AppSight). ask_at p.key a.asks)) (app_seen p.app) ∙ ask_of (seen_app sight p.app)

    ask_ends : (ask : Ask) → proposed_ask sight p ≡ Some ask → EndsInNone K ask.resource
    ask_ends ask = by (seen_app sight p.app) refl
      where
        by : (o : Option AppSight) → seen_app sight p.app ≡ o → option_and_then (λ (a : AppSight). ask_at p.key a.asks) o ≡ Some ask → EndsInNone K ask.resource
        by None e f = absurd (cc f)
        by (Some a) e f =
            let m = (found (λ (x : AppSight). x.number == p.app) sight.apps a e).0 in
            let n = (found (λ (x : Ask). same_key x.key p.key) a.asks ask f).0 in
            each_of (λ (x : Ask). EndsInNone K x.resource) a.asks (each_of (λ (x : AppSight). All (λ (y : Ask). EndsInNone K y.resource) x.asks) sight.apps none.asks a m) ask n

    held_of : (o : Option NodeSight) → option_and_then (λ (n : NodeSight). n.reservation) (option_map (narrow_node_sight K) o) ≡ option_map (narrow_reservation K) (option_and_then (λ (n : NodeSight). n.reservation) o)
    held_of None = refl
    held_of (Some n) = refl

    held_is : node_reservation (narrow_sight sight) (narrow_proposal K p) ≡ option_map (narrow_reservation K) (node_reservation sight p)
    held_is = ap (option_and_then (λ (n : NodeSight). n.reservation)) (node_seen p.node) ∙ held_of (seen_node sight p.node)

    reserved_is : is_reserved_for (narrow_sight sight) (narrow_proposal K p) ≡ is_reserved_for sight p
    reserved_is = ap (holds_of (is_for p.app p.key)) held_is ∙ holds_mapped (narrow_reservation K) (is_for p.app p.key) (node_reservation sight p)

    wanted_is : is_wanted (narrow_sight sight) (narrow_proposal K p) ≡ is_wanted sight p
    wanted_is =
        ap (holds_of (λ ask. nat_le 1 (still_wanted (narrow_sight sight) p.app ask))) ask_is
        ∙ holds_mapped (narrow_ask K) (λ ask. nat_le 1 (still_wanted (narrow_sight sight) p.app ask)) (proposed_ask sight p)
        ∙ (λ i. holds_of (λ ask. nat_le 1 (wanted_seen p.app ask i)) (proposed_ask sight p))

    resource_is : asks_resource (narrow_sight sight) (narrow_proposal K p) ≡ asks_resource sight p
    resource_is =
        ap (holds_of (λ ask. bytes_eq ask.resource (take K p.resource))) ask_is
        ∙ holds_mapped (narrow_ask K) (λ ask. bytes_eq ask.resource (take K p.resource)) (proposed_ask sight p)
        ∙ holds_same (λ ask. bytes_eq (take K ask.resource) (take K p.resource)) (λ ask. bytes_eq ask.resource p.resource) (proposed_ask sight p) (λ ask e. same_narrow K ask.resource p.resource (ask_ends ask e) ends)

    place_is : suits_place (narrow_sight sight) (narrow_proposal K p) ≡ suits_place sight p
    place_is =
        ap (holds_of (λ ask. holds_of (takes_place ask.place) (seen_node (narrow_sight sight) p.node))) ask_is
        ∙ holds_mapped (narrow_ask K) (λ ask. holds_of (takes_place ask.place) (seen_node (narrow_sight sight) p.node)) (proposed_ask sight p)
        ∙ (λ i. holds_of (λ ask. (ap (holds_of (takes_place ask.place)) (node_seen p.node) ∙ holds_mapped (narrow_node_sight K) (takes_place ask.place) (seen_node sight p.node)) i) (proposed_ask sight p))

    -- the proposal fits what a node has left, or its total
    room_is : (of : NodeSight → List ℕ) → ((n : NodeSight) → of (narrow_node_sight K n) ≡ take K (of n)) →
        holds_of (λ n. fits (take K p.resource) (of n)) (seen_node (narrow_sight sight) p.node) ≡ holds_of (λ n. fits p.resource (of n)) (seen_node sight p.node)
    room_is of cut =
        ap (holds_of (λ (n : NodeSight). fits (take K p.resource) (of n))) (node_seen p.node)
        ∙ holds_mapped (narrow_node_sight K) (λ (n : NodeSight). fits (take K p.resource) (of n)) (seen_node sight p.node)
        ∙ (λ i. holds_of (λ (n : NodeSight). (ap (fits (take K p.resource)) (cut n) ∙ fits_narrow K p.resource (of n) ends) i) (seen_node sight p.node))

    free_is : fits_free (narrow_sight sight) (narrow_proposal K p) ≡ fits_free sight p
    free_is = room_is (λ n. n.free) (λ n. refl)

    total_is : fits_total (narrow_sight sight) (narrow_proposal K p) ≡ fits_total sight p
    total_is = room_is (λ n. n.total) (λ n. refl)

    back_of : (b : Bool) (o : Option Reservation) → (if b then unwrap_or (option_map (λ (r : Reservation). r.resource) (option_map (narrow_reservation K) o)) [] else []) ≡ take K (if b then unwrap_or (option_map (λ (r : Reservation). r.resource) o) [] else [])
    back_of true None = sym (take_nothing K)
    back_of true (Some r) = refl
    back_of false o = sym (take_nothing K)

    replaced_is : room_replaced (narrow_sight sight) (narrow_proposal K p) ≡ take K (room_replaced sight p)
    replaced_is =
        (λ i. if is_grant p.kind && reserved_is i then unwrap_or (option_map (λ (r : Reservation). r.resource) (held_is i)) [] else [])
        ∙ back_of (is_grant p.kind && is_reserved_for sight p) (node_reservation sight p)

    after_is : (used : List ℕ) → use_after (narrow_sight sight) (narrow_proposal K p) (take K used) ≡ take K (use_after sight p used)
    after_is used = ap (λ old. amounts_exchanged old (take K p.resource) (take K used)) replaced_is ∙ exchanged_narrow K (room_replaced sight p) p.resource used

    user_of : (o : Option AppSight) → unwrap_or (option_map (λ (a : AppSight). a.user) (option_map (narrow_app_sight K) o)) [] ≡ unwrap_or (option_map (λ (a : AppSight). a.user) o) []
    user_of None = refl
    user_of (Some a) = refl

    user_is : user_name (narrow_sight sight) (narrow_proposal K p) ≡ user_name sight p
    user_is = ap (λ o. unwrap_or (option_map (λ (a : AppSight). a.user) o) []) (app_seen p.app) ∙ user_of (seen_app sight p.app)

    in_maximum : (x : QueueSight) → IsIn x sight.queues → stays_in_maximum (narrow_sight sight) (narrow_proposal K p) (narrow_queue_sight K x) ≡ stays_in_maximum sight p x
    in_maximum x m =
        ap (fits_maximum (option_map (take K) x.row.maximum)) (after_is x.used)
        ∙ maximum_narrow K x.row.maximum (use_after sight p x.used) (exchanged_ends K (room_replaced sight p) p.resource x.used ends (each_of (λ (y : QueueSight). EndsInNone K y.used) sight.queues none.used x m))

    way_is : queues_to (narrow_sight sight) (leaf_path (narrow_sight sight) (narrow_proposal K p)) ≡ map (narrow_queue_sight K) (queues_to sight (leaf_path sight p))
    way_is = ap (queues_to (narrow_sight sight)) (leaf_seen p) ∙ way_seen (leaf_path sight p)

    on_way : (x : QueueSight) → IsIn x (queues_to sight (leaf_path sight p)) → IsIn x sight.queues
    on_way x m = (of_filter (λ (y : QueueSight). is_under y.row.path (leaf_path sight p)) sight.queues x m).1

    maxima_are : stays_in_maxima (narrow_sight sight) (narrow_proposal K p) ≡ stays_in_maxima sight p
    maxima_are =
        ap (list_all (stays_in_maximum (narrow_sight sight) (narrow_proposal K p))) way_is
        ∙ all_same (narrow_queue_sight K) (stays_in_maximum (narrow_sight sight) (narrow_proposal K p)) (stays_in_maximum sight p) (queues_to sight (leaf_path sight p)) (λ x m. in_maximum x (on_way x m))

    level_is : broken_level (narrow_sight sight) (narrow_proposal K p) ≡ broken_level sight p
    level_is =
        ap (position (λ x. not (stays_in_maximum (narrow_sight sight) (narrow_proposal K p) x))) way_is
        ∙ position_same (narrow_queue_sight K) (λ x. not (stays_in_maximum (narrow_sight sight) (narrow_proposal K p) x)) (λ x. not (stays_in_maximum sight p x)) (queues_to sight (leaf_path sight p))
        (λ x m. ap not (in_maximum x (on_way x m)))

    in_limit : (x : QueueSight) → IsIn x sight.queues →
        fits_user_limit x.row.factor (take K x.row.guaranteed) (use_after (narrow_sight sight) (narrow_proposal K p) (take K (x.used_by (user_name sight p))))
        ≡ fits_user_limit x.row.factor x.row.guaranteed (use_after sight p (x.used_by (user_name sight p)))
    in_limit x m =
        let used = x.used_by (user_name sight p) in
        ap (fits_user_limit x.row.factor (take K x.row.guaranteed)) (after_is used)
        ∙ user_limit_narrow K x.row.factor x.row.guaranteed (use_after sight p used)
        (exchanged_ends K (room_replaced sight p) p.resource used ends (each_of (λ (y : QueueSight). (user : List ℕ) → EndsInNone K (y.used_by user)) sight.queues none.used_by x m (user_name sight p)))

    limit_is : stays_in_user_limit (narrow_sight sight) (narrow_proposal K p) ≡ stays_in_user_limit sight p
    limit_is =
        (λ i. holds_of (λ (x : QueueSight). fits_user_limit x.row.factor x.row.guaranteed (use_after (narrow_sight sight) (narrow_proposal K p) (x.used_by (user_is i))))
        ((ap (seen_queue (narrow_sight sight)) (leaf_seen p) ∙ queue_seen (leaf_path sight p)) i))
        ∙ holds_mapped (narrow_queue_sight K) (λ (x : QueueSight). fits_user_limit x.row.factor x.row.guaranteed (use_after (narrow_sight sight) (narrow_proposal K p) (x.used_by (user_name sight p)))) (seen_queue sight (leaf_path sight p))
        ∙ holds_same
        (λ (x : QueueSight). fits_user_limit x.row.factor (take K x.row.guaranteed) (use_after (narrow_sight sight) (narrow_proposal K p) (take K (x.used_by (user_name sight p)))))
        (λ (x : QueueSight). fits_user_limit x.row.factor x.row.guaranteed (use_after sight p (x.used_by (user_name sight p))))
        (seen_queue sight (leaf_path sight p))
        (λ x e. in_limit x (found (λ (y : QueueSight). bytes_eq y.row.path (leaf_path sight p)) sight.queues x e).0)

    no_app : is_none (seen_app (narrow_sight sight) p.app) ≡ is_none (seen_app sight p.app)
    no_app = ap is_none (app_seen p.app) ∙ none_mapped (narrow_app_sight K) (seen_app sight p.app)

    no_ask : is_none (proposed_ask (narrow_sight sight) (narrow_proposal K p)) ≡ is_none (proposed_ask sight p)
    no_ask = ap is_none ask_is ∙ none_mapped (narrow_ask K) (proposed_ask sight p)

    no_node : is_none (seen_node (narrow_sight sight) p.node) ≡ is_none (seen_node sight p.node)
    no_node = ap is_none (node_seen p.node) ∙ none_mapped (narrow_node_sight K) (seen_node sight p.node)

    holds_some : is_some (node_reservation (narrow_sight sight) (narrow_proposal K p)) ≡ is_some (node_reservation sight p)
    holds_some = ap is_some held_is ∙ some_mapped (narrow_reservation K) (node_reservation sight p)

    pub reason_narrow : reason_of (narrow_sight sight) (narrow_proposal K p) ≡ reason_of sight p
    reason_narrow = λ i. earliest (
        (no_app i, NoApp)
        ∷ (no_ask i || not (wanted_is i || is_grant p.kind && reserved_is i), NoAsk)
        ∷ (not (resource_is i), OtherAsk)
        ∷ (no_node i, NoNode)
        ∷ (not (place_is i), WrongPlace)
        ∷ (holds_some i && not (is_grant p.kind && reserved_is i), ReservedByOther)
        ∷ (is_grant p.kind && not (free_is i), NoRoom)
        ∷ (not (maxima_are i), OverMaximum (unwrap_or (level_is i) 0))
        ∷ (not (limit_is i), OverUser)
        ∷ (nat_le live_max sight.live, TooManyLive)
        ∷ (not (is_grant p.kind) && free_is i, FitsNow)
        ∷ (not (is_grant p.kind) && not (total_is i), NeverFits)
        ∷ (nat_le number_end sight.next_container, NumbersSpent)
        ∷ [])

-- what is proposed for an ask of this resource has none of the last
pub asked_ends : {K : ℕ} (sight : Sight (suc K)) → ShowsNone sight → (p : NodeProposal) → asks_resource sight p ≡ true → EndsInNone K p.resource
asked_ends {K} sight none p h = by (seen_app sight p.app) refl h
  where
    of_ask : (asks : List Ask) → All (λ (x : Ask). EndsInNone K x.resource) asks → (o : Option Ask) → ask_at p.key asks ≡ o → holds_of (λ (ask : Ask). bytes_eq ask.resource p.resource) o ≡ true → EndsInNone K p.resource
    of_ask asks all None e g = absurd (cc g)
    of_ask asks all (Some ask) e g =
        let m = (found (λ (x : Ask). same_key x.key p.key) asks ask e).0 in
        subst (EndsInNone K) ((bytes_eq-Decides ask.resource p.resource).0 g) (each_of (λ (x : Ask). EndsInNone K x.resource) asks all ask m)

    by : (o : Option AppSight) → seen_app sight p.app ≡ o → holds_of (λ (ask : Ask). bytes_eq ask.resource p.resource) (option_and_then (λ (a : AppSight). ask_at p.key a.asks) o) ≡ true → EndsInNone K p.resource
    by None e g = absurd (cc g)
    by (Some a) e g =
        let m = (found (λ (x : AppSight). x.number == p.app) sight.apps a e).0 in
        of_ask a.asks (each_of (λ (x : AppSight). All (λ (y : Ask). EndsInNone K y.resource) x.asks) sight.apps none.asks a m) (ask_at p.key a.asks) refl g

pub reasons_narrow : ReasonsNarrow
reasons_narrow K sight p none ends = reason_narrow sight none p ends
