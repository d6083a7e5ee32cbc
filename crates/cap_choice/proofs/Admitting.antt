-- When an ask of a sight is admitted on a node.
use Rattle.cap_choice.proofs.Prelude.{◌≡◌, ◌==◌, ℕ, Bool, true, false, cond, List, [], Some, None, refl, sym, ◌∙◌, ap, subst, inl, inr, arith, ◌⊎◌, Option, is_none, is_some, unwrap_or, option_map, option_and_then, ◌&&◌, nat_le, nat_lt, bytes_eq, option_map_or, list_all, and_parts, nat_tests, ext_get_or, amounts_exchanged, less, plus, zeros, amount-less, amount-zeros, length-less, live_max, number_end, holds_of, fits, ProposalKind, Grant, Reserve, Reservation, ask_at, is_for, Ask, Sight, AppSight, NodeSight, seen_node, seen_queue, still_wanted, queues_to, QueueSight, NodeProposal, IsAdmissible, NeedsOf, asks_resource, fits_free, fits_total, is_grant, is_wanted, leaf_path, node_reservation, proposed_ask, stays_in_maxima, stays_in_user_limit, suits_place, takes_place, use_after, user_name, fits_maximum, fits_user_limit, bytes_itself, each_of, found, AreByKey, IsOffer, IsWhole, Offer, proposal_of, IsSeenNode, IsAdmittedAs, IsClosed, IsOpen, has_numbers, in_limits, kind_beside, kind_by_room, may_hold, room_back, room_kind, taken_as}

-- to take 0 of each away is to take nothing away
less_nothing : (n : ℕ) (v : List ℕ) → less v (zeros n) ≡ v
less_nothing n v = ext_get_or 0 (less v (zeros n)) v (length-less v (zeros n)) (λ k b. let l = amount-less v (zeros n) k in let z = amount-zeros n k in omega (arith, l, z))

less_none : (v : List ℕ) → less v [] ≡ v
less_none v = ext_get_or 0 (less v []) v (length-less v []) (λ k b. let l = amount-less v [] k in omega (arith, l))

same_exchange : (n : ℕ) (r used : List ℕ) → amounts_exchanged (zeros n) r used ≡ amounts_exchanged [] r used
same_exchange n r used = ap (λ v. plus v r) (less_nothing n used ∙ sym (less_none used))

-- the kind for which there is room, over plain tests
abbrev kind_where : (Reservation → Bool) → Bool → Bool → Bool → Option Reservation → Option ProposalKind
kind_where t want free total None = cond want (cond free (Some Grant) (cond total (Some Reserve) None)) None
kind_where t want free total (Some r) = cond (t r && free) (Some Grant) None

abbrev Needs : ProposalKind → (Reservation → Bool) → Bool → Bool → Bool → Option Reservation → Type 0
Needs Grant t want free total o = (free ≡ true) × (((o ≡ None) × (want ≡ true)) ⊎ (holds_of t o ≡ true))
Needs Reserve t want free total o = (want ≡ true) × (o ≡ None) × (free ≡ false) × (total ≡ true)

module _ (t : Reservation → Bool) where
  to_kind : (k : ProposalKind) (want free total : Bool) (o : Option Reservation) → Needs k t want free total o → kind_where t want free total o ≡ Some k
  to_kind Grant want free total None (f, inl h) = λ i. cond (h.1 i) (cond (f i) (Some Grant) (cond total (Some Reserve) None)) None
  to_kind Grant want free total None (f, inr h) = absurd (cc h)
  to_kind Grant want free total (Some r) (f, inl h) = absurd (cc (h.0))
  to_kind Grant want free total (Some r) (f, inr h) = λ i. cond (h i && f i) (Some Grant) None
  to_kind Reserve want free total None n = λ i. cond (n.0 i) (cond (n.2 i) (Some Grant) (cond (n.3 i) (Some Reserve) None)) None
  to_kind Reserve want free total (Some r) n = absurd (cc (n.1))

  both_true : (a b : Bool) (k : ProposalKind) → cond (a && b) (Some Grant) None ≡ Some k → (a ≡ true) × (b ≡ true) × (k ≡ Grant)
  both_true true true k e = (refl, refl, cc)
  both_true true false k e = absurd (cc e)
  both_true false b k e = absurd (cc e)

  of_kind : (k : ProposalKind) (want free total : Bool) (o : Option Reservation) → kind_where t want free total o ≡ Some k → Needs k t want free total o
  of_kind Grant true true total None e = (refl, inl (refl, refl))
  of_kind Grant true false true None e = absurd (cc e)
  of_kind Grant true false false None e = absurd (cc e)
  of_kind Grant false free total None e = absurd (cc e)
  of_kind Reserve true true total None e = absurd (cc e)
  of_kind Reserve true false true None e = (refl, refl, refl, refl)
  of_kind Reserve true false false None e = absurd (cc e)
  of_kind Reserve false free total None e = absurd (cc e)
  of_kind Grant want free total (Some r) e = let b = both_true (t r) free Grant e in (b.1, inr b.0)
  of_kind Reserve want free total (Some r) e = let b = both_true (t r) free Reserve e in absurd (cc (b.2))

  -- what is taken back is the room of the node's reservation
  back_is : (n : ℕ) (k : ProposalKind) (want free total : Bool) (o : Option Reservation) → kind_where t want free total o ≡ Some k → (r used : List ℕ) →
      amounts_exchanged (cond (is_grant k && holds_of t o) (unwrap_or (option_map (λ (x : Reservation). x.resource) o) []) []) r used ≡ amounts_exchanged (option_map_or (λ (x : Reservation). x.resource) o (zeros n)) r used
  back_is n Grant want free total None e r used = sym (same_exchange n r used)
  back_is n Reserve want free total None e r used = sym (same_exchange n r used)
  back_is n k want free total (Some x) e r used =
      let b = both_true (t x) free k e in
      λ i. amounts_exchanged (cond (is_grant (b.2 i) && b.0 i) x.resource []) r used

-- what a node takes an ask as, over plain tests
of_taken : (r : Option Reservation) (b : Bool) (k : Option ProposalKind) (kind : ProposalKind) → cond (is_none r && b) k None ≡ Some kind → (r ≡ None) × (b ≡ true) × (k ≡ Some kind)
of_taken None true k kind e = (refl, refl, e)
of_taken None false k kind e = absurd (cc e)
of_taken (Some r) b k kind e = absurd (cc e)

of_untaken : (b : Bool) (k : Option ProposalKind) → cond b k None ≡ None → (b ≡ false) ⊎ (k ≡ None)
of_untaken true k e = inr e
of_untaken false k e = inl refl

-- an ask is found by its key
pub asked_is : {K : ℕ} (sight : Sight K) → IsWhole sight → (o : Offer) → IsOffer sight o → ask_at o.ask.key o.app.asks ≡ Some o.ask
asked_is sight whole o is =
    let keys : AreByKey o.app.asks = each_of (λ (app : AppSight). AreByKey app.asks) sight.apps whole.asks o.app (found (λ (app : AppSight). app.number == o.app.number) sight.apps o.app is.found).0 in
    each_of (λ (ask : Ask). ask_at ask.key o.app.asks ≡ Some ask) o.app.asks keys.found o.ask is.member

module _ {K : ℕ} (sight : Sight K) (node : NodeSight) (o : Offer) (at : IsSeenNode sight node) (whole : IsWhole sight) (is : IsOffer sight o) where
  abbrev of : ProposalKind → NodeProposal
  of k = proposal_of k node.number o

  abbrev own : Reservation → Bool
  own = is_for o.app.number o.ask.key

  abbrev wanted : ℕ
  wanted = still_wanted sight o.app.number o.ask

  ask_is : (k : ProposalKind) → proposed_ask sight (of k) ≡ Some o.ask
  ask_is k = ap (option_and_then (λ (app : AppSight). ask_at o.ask.key app.asks)) is.found ∙ asked_is sight whole o is

  reservation_is : (k : ProposalKind) → node_reservation sight (of k) ≡ node.reservation
  reservation_is k = ap (option_and_then (λ (n : NodeSight). n.reservation)) at

  wanted_is : (k : ProposalKind) → is_wanted sight (of k) ≡ nat_le 1 wanted
  wanted_is k = ap (holds_of (λ (a : Ask). nat_le 1 (still_wanted sight o.app.number a))) (ask_is k)

  free_is : (k : ProposalKind) → fits_free sight (of k) ≡ fits o.ask.resource node.free
  free_is k = ap (holds_of (λ (n : NodeSight). fits o.ask.resource n.free)) at

  total_is : (k : ProposalKind) → fits_total sight (of k) ≡ fits o.ask.resource node.total
  total_is k = ap (holds_of (λ (n : NodeSight). fits o.ask.resource n.total)) at

  place_is : (k : ProposalKind) → suits_place sight (of k) ≡ takes_place o.ask.place node
  place_is k = ap (holds_of (λ (a : Ask). holds_of (takes_place a.place) (seen_node sight node.number))) (ask_is k) ∙ ap (holds_of (takes_place o.ask.place)) at

  resource_is : (k : ProposalKind) → asks_resource sight (of k) ≡ true
  resource_is k = ap (holds_of (λ (a : Ask). bytes_eq a.resource o.ask.resource)) (ask_is k) ∙ bytes_itself o.ask.resource

  kind_is : room_kind sight node o ≡ kind_where own (nat_le 1 wanted) (fits o.ask.resource node.free) (fits o.ask.resource node.total) node.reservation
  kind_is = by node.reservation
    where
      by : (r : Option Reservation) → kind_beside r wanted node o ≡ kind_where own (nat_le 1 wanted) (fits o.ask.resource node.free) (fits o.ask.resource node.total) r
      by None = refl
      by (Some r) = refl

  needs_are : (k l : ProposalKind) → NeedsOf sight (of l) k ≡ Needs k own (nat_le 1 wanted) (fits o.ask.resource node.free) (fits o.ask.resource node.total) node.reservation
  needs_are Grant l = λ i. (free_is l i ≡ true) × (((reservation_is l i ≡ None) × (wanted_is l i ≡ true)) ⊎ (holds_of own (reservation_is l i) ≡ true))
  needs_are Reserve l = λ i. (wanted_is l i ≡ true) × (reservation_is l i ≡ None) × (free_is l i ≡ false) × (total_is l i ≡ true)

  -- a node has room for what is admissible there
  has_room : (k : ProposalKind) → IsAdmissible sight (of k) → room_kind sight node o ≡ Some k
  has_room k a = kind_is ∙ to_kind own k (nat_le 1 wanted) (fits o.ask.resource node.free) (fits o.ask.resource node.total) node.reservation (subst (λ T. T) (needs_are k k) a.1)

  -- the limits, as the proposal has them and as the application shows them
  module _ (k : ProposalKind) (room : room_kind sight node o ≡ Some k) where
    after_is : (used : List ℕ) → use_after sight (of k) used ≡ amounts_exchanged (room_back K node) o.ask.resource used
    after_is used =
        (λ i. amounts_exchanged (cond (is_grant k && holds_of own (reservation_is k i)) (unwrap_or (option_map (λ (x : Reservation). x.resource) (reservation_is k i)) []) []) o.ask.resource used)
        ∙ back_is own K k (nat_le 1 wanted) (fits o.ask.resource node.free) (fits o.ask.resource node.total) node.reservation (sym kind_is ∙ room) o.ask.resource used

    leaf_is : leaf_path sight (of k) ≡ o.app.leaf
    leaf_is = ap (λ x. unwrap_or (option_map (λ (a : AppSight). a.leaf) x) []) is.found

    user_is : user_name sight (of k) ≡ o.app.user
    user_is = ap (λ x. unwrap_or (option_map (λ (a : AppSight). a.user) x) []) is.found

    maxima_are : stays_in_maxima sight (of k) ≡ list_all (λ (q : QueueSight). fits_maximum q.row.maximum (amounts_exchanged (room_back K node) o.ask.resource q.used)) (queues_to sight o.app.leaf)
    maxima_are = λ i. list_all (λ (q : QueueSight). fits_maximum q.row.maximum (after_is q.used i)) (queues_to sight (leaf_is i))

    user_limit_is : stays_in_user_limit sight (of k) ≡ holds_of (λ (q : QueueSight). fits_user_limit q.row.factor q.row.guaranteed (amounts_exchanged (room_back K node) o.ask.resource (q.used_by o.app.user))) (seen_queue sight o.app.leaf)
    user_limit_is = λ i. holds_of (λ (q : QueueSight). fits_user_limit q.row.factor q.row.guaranteed (after_is (q.used_by (user_is i)) i)) (seen_queue sight (leaf_is i))

    limits_here : in_limits sight o.app (room_back K node) o.ask.resource ≡ (stays_in_maxima sight (of k) && stays_in_user_limit sight (of k))
    limits_here = λ i. sym maxima_are i && sym user_limit_is i

  -- each way in which neither kind is admissible
  abbrev pub IsRefused : Type 0
  IsRefused = IsAdmittedAs sight node.number o None

  pub without_room : room_kind sight node o ≡ None → IsRefused
  without_room n k a = let h = has_room k a in absurd (cc (n, h))

  pub elsewhere : takes_place o.ask.place node ≡ false → IsRefused
  elsewhere n k a = let h = a.0.place in let p = place_is k in absurd (cc (n, h, p))

  pub without_numbers : has_numbers sight ≡ false → IsRefused
  without_numbers n k a = let l = a.0.few_live in let m = a.0.numbers_left in absurd (grind (arith, nat_tests, n, l, m))

  pub over_limits : in_limits sight o.app (room_back K node) o.ask.resource ≡ false → IsRefused
  over_limits n k a =
      let h = limits_here k (has_room k a) in
      let both : (stays_in_maxima sight (of k) && stays_in_user_limit sight (of k)) ≡ true = λ i. a.0.maxima i && a.0.user i in
      absurd (cc (n, h, both))

  -- each way in which a node without a reservation can't hold a proposal of the ask
  module _ (unreserved : node.reservation ≡ None) where
    pub unwanted : nat_le 1 wanted ≡ false → IsRefused
    unwanted n = without_room (ap (λ r. kind_beside r wanted node o) unreserved ∙ ap (λ b. cond b (kind_by_room node o.ask) None) n)

    pub no_room : kind_by_room node o.ask ≡ None → IsRefused
    no_room n = without_room (ap (λ r. kind_beside r wanted node o) unreserved ∙ ap (λ k. cond (nat_le 1 wanted) k None) n ∙ either (nat_le 1 wanted))
      where
        none : Option ProposalKind
        none = None

        either : (b : Bool) → cond b none none ≡ none
        either true = refl
        either false = refl

    pub over_limits_there : in_limits sight o.app (zeros K) o.ask.resource ≡ false → IsRefused
    over_limits_there n = over_limits (ap (λ r. in_limits sight o.app (option_map_or (λ (x : Reservation). x.resource) r (zeros K)) o.ask.resource) unreserved ∙ n)

    pub not_taken : taken_as node o.ask ≡ None → IsRefused
    not_taken n = elim (of_untaken (takes_place o.ask.place node) (kind_by_room node o.ask) (ap (λ r. cond (is_none r && takes_place o.ask.place node) (kind_by_room node o.ask) None) (sym unreserved) ∙ n)) [
      | inl away ↦ elsewhere away
      | inr none ↦ no_room none
    ]

  -- and where one is
  pub admitted : (k : ProposalKind) → room_kind sight node o ≡ Some k → takes_place o.ask.place node ≡ true → has_numbers sight ≡ true → in_limits sight o.app (room_back K node) o.ask.resource ≡ true → IsAdmissible sight (of k)
  admitted k room place numbers limits =
      let both = and_parts (stays_in_maxima sight (of k)) (stays_in_user_limit sight (of k)) (sym (limits_here k room) ∙ limits) in
      let left = and_parts (nat_lt sight.live live_max) (nat_lt sight.next_container number_end) numbers in (
        record {
          registered = ap is_some is.found;
          asked = ap is_some (ask_is k);
          resource = resource_is k;
          present = ap is_some at;
          place = place_is k ∙ place;
          maxima = both.0;
          user = both.1;
          few_live = grind (arith, nat_tests, left.0);
          numbers_left = grind (arith, nat_tests, left.1);
        },
        subst (λ T. T) (sym (needs_are k k)) (of_kind own k (nat_le 1 wanted) (fits o.ask.resource node.free) (fits o.ask.resource node.total) node.reservation (sym kind_is ∙ room)),
      )

  -- and where a node takes the ask
  module _ (kind : ProposalKind) (takes_it : taken_as node o.ask ≡ Some kind) where
    parts : (node.reservation ≡ None) × (takes_place o.ask.place node ≡ true) × (kind_by_room node o.ask ≡ Some kind)
    parts = of_taken node.reservation (takes_place o.ask.place node) (kind_by_room node o.ask) kind takes_it

    pub holds_none : node.reservation ≡ None
    holds_none = parts.0

    pub admitted_there : nat_le 1 wanted ≡ true → may_hold sight o.app (zeros K) o.ask.resource ≡ true → IsAdmissible sight (of kind)
    admitted_there left held =
        let both = and_parts (has_numbers sight) (in_limits sight o.app (zeros K) o.ask.resource) held in
        admitted kind
        (ap (λ r. kind_beside r wanted node o) holds_none ∙ ap (λ b. cond b (kind_by_room node o.ask) None) left ∙ parts.2)
        (parts.1) (both.0)
        (ap (λ r. in_limits sight o.app (option_map_or (λ (x : Reservation). x.resource) r (zeros K)) o.ask.resource) holds_none ∙ both.1)

-- an ask that nothing is wanted of, or whose application may hold no other container, is closed
module _ {K : ℕ} (sight : Sight K) (whole : IsWhole sight) (o : Offer) (is : IsOffer sight o) where
  pub closed_unwanted : (wanted : ℕ) → still_wanted sight o.app.number o.ask ≡ wanted → wanted ≡ 0 → IsClosed sight o
  closed_unwanted wanted same n node at unreserved = unwanted sight node o at whole is unreserved (grind (arith, nat_tests, same, n))

  pub closed_unheld : may_hold sight o.app (zeros K) o.ask.resource ≡ false → IsClosed sight o
  closed_unheld n = by (has_numbers sight) refl
    where
      by : (b : Bool) → has_numbers sight ≡ b → IsClosed sight o
      by false e node at unreserved = without_numbers sight node o at whole is e
      by true e node at unreserved = over_limits_there sight node o at whole is unreserved (ap (λ b. b && in_limits sight o.app (zeros K) o.ask.resource) (sym e) ∙ n)

  -- and else it is open
  pub open_is : (wanted : ℕ) → still_wanted sight o.app.number o.ask ≡ wanted → (wanted ≡ 0 → ⊥) → may_hold sight o.app (zeros K) o.ask.resource ≡ true → IsOpen sight o
  open_is wanted same some held node kind at takes_it =
      let left : nat_le 1 (still_wanted sight o.app.number o.ask) ≡ true = grind (arith, nat_tests, same, some) in
      admitted_there sight node o at whole is kind takes_it left held
