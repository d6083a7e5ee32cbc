-- Sights that show the same have the same admissible proposals, and the same choice.
use Rattle.std.proofs.Common.{◌≡◌, ℕ, Bool, true, cond, List, [], ◌∷◌, map, drop, Option, Some, None, refl, sym, ◌∙◌, ap, arith}
use Rattle.std.specs.Prelude.{◌&&◌, bytes_eq, filter, find, flat_map, is_none, option_map}
use Rattle.std.specs.Option.{option_map_or, option_or}
use Rattle.std.specs.Ordering.{is_gt}
use Rattle.std.specs.List.{list_all}
use Rattle.std.proofs.lemmas.List.{drop-map}
use Rattle.cap_vector.specs.Vector.{amount, amounts_exchanged}
use Rattle.cap_vector.specs.Fullness.{shares}
use Rattle.cap_vector.proofs.AmountLemmas.{amount-exchanged}
use Rattle.cap_base.specs.Cascade.{holds_of}
use Rattle.cap_base.specs.Amounts.{fits, times}
use Rattle.cap_base.specs.Paths.{is_under, name_of}
use Rattle.cap_model.specs.Sight.{Sight, QueueSight, NodeSight, queues_to, seen_queue}
use Rattle.cap_model.specs.Admission.{NodeProposal, IsAdmissible, leaf_path, user_name, use_after, stays_in_maxima, stays_in_user_limit, reason_of}
use Rattle.cap_base.specs.LimitTests.{fits_maximum, fits_user_limit}
use Rattle.cap_model.specs.Choice.{level_of, rank_cmp, rank_of, ring_from}
use Rattle.cap_base.specs.Levels.{Level}
use Rattle.cap_model.specs.Candidates.{admissible_on, choice_from, choice_on, first_choice, first_served, proposals_of, sooner}
use Rattle.cap_model.specs.declared.proposal.Reason.{Reason}
use Rattle.cap_base.proofs.lists.Filters.{filter_mapped, filter_same, find_mapped_at, map_twice}
use Rattle.cap_base.proofs.lists.Tests.{same_test}
use Rattle.cap_base.proofs.Amounts.{amounts_fit, fits_amounts}
use Rattle.cap_laws.proofs.choice.Reasons.{rejected_exactly}
use Rattle.cap_sights.specs.Sights.{ShownQueue, shown_queue, ShowTheSame}

-- ---- what depends on the settings and the use of queues alone

filtered : (f : ShownQueue → Bool) (qs : List QueueSight) → map shown_queue (filter (λ q. f (shown_queue q)) qs) ≡ filter f (map shown_queue qs)
filtered f qs = sym (filter_mapped f shown_queue qs)

all_pass : (t : ShownQueue → Bool) (qs : List QueueSight) → list_all (λ q. t (shown_queue q)) qs ≡ list_all t (map shown_queue qs)
all_pass t [] = refl
all_pass t (q ∷ qs) = ap (λ b. t (shown_queue q) && b) (all_pass t qs)

abbrev level_in : ShownQueue → Level
level_in u = record { fullness = shares u.used u.row.guaranteed; name = name_of u.row.path }

levels_in : (qs : List QueueSight) → map level_of (drop 1 qs) ≡ map level_in (drop 1 (map shown_queue qs))
levels_in qs = sym (map_twice level_in shown_queue (drop 1 qs)) ∙ ap (map level_in) (sym (drop-map shown_queue 1 qs))

-- what fits depends on amounts alone
same_fit : (old new v w most : List ℕ) → ((k : ℕ) → amount v k ≡ amount w k) → fits (amounts_exchanged old new v) most ≡ fits (amounts_exchanged old new w) most
same_fit old new v w most same =
    same_test _ _
    (λ t. amounts_fit _ most (λ k. let a = fits_amounts _ most t k in let u = same k in let b = amount-exchanged old new v k in let c = amount-exchanged old new w k in omega (arith, a, u, b, c)))
    (λ t. amounts_fit _ most (λ k. let a = fits_amounts _ most t k in let u = same k in let b = amount-exchanged old new v k in let c = amount-exchanged old new w k in omega (arith, a, u, b, c)))

-- whether a user stays within the limit of a queue, where there is one
abbrev user_fits : (List ℕ → List ℕ) → List ℕ → QueueSight → Bool
user_fits after user q = fits_user_limit q.row.factor q.row.guaranteed (after (q.used_by user))

user_stays : (old new user : List ℕ) (o p : Option QueueSight) → option_map shown_queue o ≡ option_map shown_queue p
    → ((k : ℕ) → amount (option_map_or (λ (q : QueueSight). q.used_by user) o []) k ≡ amount (option_map_or (λ (q : QueueSight). q.used_by user) p []) k)
    → holds_of (user_fits (amounts_exchanged old new) user) o ≡ holds_of (user_fits (amounts_exchanged old new) user) p
user_stays old new user None None e same = refl
user_stays old new user None (Some y) e same = absurd (cc e)
user_stays old new user (Some x) None e same = absurd (cc e)
user_stays old new user (Some x) (Some y) e same =
    let rows : shown_queue x ≡ shown_queue y = cc e in
    same_fit old new (x.used_by user) (y.used_by user) (times x.row.factor x.row.guaranteed) same
    ∙ (λ i. fits_user_limit (rows i).row.factor (rows i).row.guaranteed (amounts_exchanged old new (y.used_by user)))

-- ---- sights that differ in how their queues keep what users use

abbrev with_queues : {K : ℕ} → Sight K → List QueueSight → Sight K
with_queues s qs = record s { queues = qs }

-- the same queues with the same use, and the same amounts for each user
record AreAlike {K : ℕ} (s : Sight K) (qs rs : List QueueSight) : Type 0 where
  queues : map shown_queue qs ≡ map shown_queue rs
  users : (path user : List ℕ) (k : ℕ) → amount (option_map_or (λ (q : QueueSight). q.used_by user) (seen_queue (with_queues s qs) path) []) k ≡ amount (option_map_or (λ (q : QueueSight). q.used_by user) (seen_queue (with_queues s rs) path) []) k

turned : {K : ℕ} (s : Sight K) (qs rs : List QueueSight) → AreAlike s qs rs → AreAlike s rs qs
turned s qs rs h = record { queues = sym h.queues; users = λ path user k. sym (h.users path user k) }

module _ {K : ℕ} (s : Sight K) (qs rs : List QueueSight) (h : AreAlike s qs rs) (p : NodeProposal) where
  abbrev a : Sight K
  a = with_queues s qs

  abbrev b : Sight K
  b = with_queues s rs

  to_leaf : (leaf : List ℕ) → map shown_queue (queues_to a leaf) ≡ map shown_queue (queues_to b leaf)
  to_leaf leaf =
      let on : ShownQueue → Bool = λ u. is_under u.row.path leaf in
      filtered on qs ∙ ap (filter on) h.queues ∙ sym (filtered on rs)

  maxima_same : stays_in_maxima a p ≡ stays_in_maxima b p
  maxima_same =
      let within : ShownQueue → Bool = λ u. fits_maximum u.row.maximum (use_after a p u.used) in
      all_pass within (queues_to a (leaf_path a p)) ∙ ap (list_all within) (to_leaf (leaf_path a p)) ∙ sym (all_pass within (queues_to b (leaf_path a p)))

  user_same : stays_in_user_limit a p ≡ stays_in_user_limit b p
  user_same =
      let here : ShownQueue → Bool = λ u. bytes_eq u.row.path (leaf_path a p) in
      let found = sym (find_mapped_at shown_queue here qs) ∙ ap (find here) h.queues ∙ find_mapped_at shown_queue here rs in
      user_stays (Rattle.cap_model.specs.Admission.room_replaced a p) p.resource (user_name a p) (seen_queue a (leaf_path a p)) (seen_queue b (leaf_path a p)) found (h.users (leaf_path a p) (user_name a p))

  still_admissible : IsAdmissible a p → IsAdmissible b p
  still_admissible adm =
      let w = adm.0 in (
        record {
          registered = w.registered;
          asked = w.asked;
          resource = w.resource;
          present = w.present;
          place = w.place;
          maxima = sym maxima_same ∙ w.maxima;
          user = sym user_same ∙ w.user;
          few_live = w.few_live;
          numbers_left = w.numbers_left;
        },
        adm.1,
      )

  rank_same : rank_of a p ≡ rank_of b p
  rank_same =
      let levels = levels_in (queues_to a (leaf_path a p)) ∙ ap (λ us. map level_in (drop 1 us)) (to_leaf (leaf_path a p)) ∙ sym (levels_in (queues_to b (leaf_path a p))) in
      λ i. record (rank_of a p) { levels = levels i }

none_of : (o : Option Reason) → is_none o ≡ true → o ≡ None
none_of None h = refl
none_of (Some x) h = absurd (cc h)

module _ {K : ℕ} (s : Sight K) (qs rs : List QueueSight) (h : AreAlike s qs rs) where
  abbrev one : Sight K
  one = with_queues s qs

  abbrev two : Sight K
  two = with_queues s rs

  passes_same : (p : NodeProposal) → is_none (reason_of one p) ≡ is_none (reason_of two p)
  passes_same p =
      same_test (is_none (reason_of one p)) (is_none (reason_of two p))
      (λ t. ap is_none ((rejected_exactly K two p).1 (still_admissible s qs rs h p ((rejected_exactly K one p).0 (none_of (reason_of one p) t)))))
      (λ t. ap is_none ((rejected_exactly K one p).1 (still_admissible s rs qs (turned s qs rs h) p ((rejected_exactly K two p).0 (none_of (reason_of two p) t)))))

  sooner_same : (p : NodeProposal) (o : Option NodeProposal) → sooner one p o ≡ sooner two p o
  sooner_same p None = refl
  sooner_same p (Some q) = λ i. cond (is_gt (rank_cmp (rank_same s qs rs h p i) (rank_same s qs rs h q i))) (Some q) (Some p)

  first_served_same : (ps : List NodeProposal) → first_served one ps ≡ first_served two ps
  first_served_same [] = refl
  first_served_same (p ∷ ps) = ap (sooner one p) (first_served_same ps) ∙ sooner_same p (first_served two ps)

  choice_on_same : (n : ℕ) → choice_on one n ≡ choice_on two n
  choice_on_same n =
      ap (first_served one) (filter_same (λ p. is_none (reason_of one p)) (λ p. is_none (reason_of two p)) (flat_map (λ app. flat_map (proposals_of n app) app.asks) s.apps) (λ p m. passes_same p))
      ∙ first_served_same (admissible_on two n)

  first_choice_same : (nodes : List NodeSight) → first_choice one nodes ≡ first_choice two nodes
  first_choice_same [] = refl
  first_choice_same (node ∷ nodes) = λ i. option_or (choice_on_same node.number i) (first_choice_same nodes i)

-- ---- sights that show the same

module _ {K : ℕ} (a b : Sight K) (same : ShowTheSame a b) where
  alike : AreAlike b a.queues b.queues
  alike = record { queues = same.queues; users = same.users }

  -- all but the queues is that of the other
  between : a ≡ with_queues b a.queues
  between = λ i. record { queues = a.queues; apps = same.apps i; nodes = same.nodes i; live = same.live i; next_container = same.next_container i }

  pub same_choice : (start : ℕ) → choice_from a start ≡ choice_from b start
  same_choice start = ap (λ x. choice_from x start) between ∙ first_choice_same b a.queues b.queues alike (ring_from start b.nodes)
