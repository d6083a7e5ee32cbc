-- What is known of a node that is not refused, and of an application.
use Rattle.cap_laws.proofs.Prelude.{◌≡◌, ℕ, ◌<◌, Bool, true, false, List, [], ◌∷◌, length, Option, Some, None, refl, sym, inl, inr, not, nat_le, bytes_eq, is_none, IsSome, is_some, ◌↔◌, list_any, cases_Bool, not-false, not-true, leb-false, amount_max, plus, is_within, IsWithin, IsVector, is_zero, within_from_test, test_from_within, nodes_max, number_end, Refusal, Flat, queue_at, submit_refusal, has_children, is_running, register_node_refusal, total_of_nodes}
use Rattle.cap_laws.proofs.choice.Reasons.{none_holds}

pub record MayJoin {K : ℕ} (cluster : Flat K) (total : List ℕ) : Type 0 where
  pub within : IsWithin amount_max (plus (total_of_nodes cluster) total)
  pub few : length cluster.nodes.present < nodes_max
  pub numbered : cluster.nodes.next_node < number_end

pub may_join : {K : ℕ} (cluster : Flat K) (host total : List ℕ) → register_node_refusal cluster host total ≡ None → MayJoin cluster total
may_join cluster host total h =
    let tests = none_holds
    ((list_any (λ node. bytes_eq node.host host) cluster.nodes.present, Refusal.HostTaken)
    ∷ (not (is_within amount_max (plus (total_of_nodes cluster) total)), Refusal.TotalTooLarge)
    ∷ (nat_le nodes_max (length cluster.nodes.present), Refusal.TooManyNodes)
    ∷ (is_zero total, Refusal.ZeroResource)
    ∷ (nat_le number_end cluster.nodes.next_node, Refusal.NumbersSpent)
    ∷ []) h in
    record {
      within = within_from_test amount_max (plus (total_of_nodes cluster) total) (not-false (is_within amount_max (plus (total_of_nodes cluster) total)) tests.1.0);
      few = leb-false nodes_max (length cluster.nodes.present) tests.1.1.0;
      numbered = leb-false number_end cluster.nodes.next_node tests.1.1.1.1.0;
    }

-- a sum that is none passes the bound somewhere
pub none_is_large : {A : Type 0} (k bound : ℕ) (o : Option A) (v : List ℕ) (none : Bool) → length v ≡ k → (IsSome o ↔ IsVector k bound v) → is_some o ≡ not none → none ≡ not (is_within bound v)
none_is_large k bound None v none long is e =
    elim (cases_Bool (is_within bound v)) [
      | inl t ↦ let some : false ≡ true = is.1 (record { count = long; within = within_from_test bound v t }) in absurd (cc some)
      | inr f ↦ rw f (not-false none (sym e))
    ]
none_is_large k bound (Some x) v none long is e = rw (test_from_within bound v (is.0 refl).within) (not-true none (sym e))

-- the tests of a submit, in their order
abbrev pub submit_tests : {K : ℕ} → Flat K → List ℕ → List (Bool × Refusal)
submit_tests cluster path =
    (is_none (queue_at cluster path), Refusal.UnknownQueue)
    ∷ (has_children cluster path, Refusal.NotLeaf)
    ∷ (not (is_running cluster path), Refusal.QueueStopped)
    ∷ (nat_le cluster.settings.application_limit (length cluster.apps.active), Refusal.TooManyApplications)
    ∷ (nat_le number_end cluster.apps.next, Refusal.NumbersSpent)
    ∷ []

-- what is known of an application that is not refused
pub record MayEnter {K : ℕ} (cluster : Flat K) : Type 0 where
  pub few : length cluster.apps.active < cluster.settings.application_limit
  pub numbered : cluster.apps.next < number_end

pub may_enter : {K : ℕ} (cluster : Flat K) (path : List ℕ) → submit_refusal cluster path ≡ None → MayEnter cluster
may_enter cluster path h =
    let tests = none_holds (submit_tests cluster path) h in
    record { few = leb-false cluster.settings.application_limit (length cluster.apps.active) tests.1.1.1.0; numbered = leb-false number_end cluster.apps.next tests.1.1.1.1.0 }
