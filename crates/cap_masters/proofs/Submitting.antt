-- Where an application may enter: what the tree shows is what the flat cluster has.
use Rattle.cap_masters.proofs.Prelude.{◌≡◌, ℕ, ◌≤◌, ◌<◌, Bool, true, false, List, [], ◌∷◌, ◌++◌, length, Option, Some, None, refl, sym, ◌∙◌, ap, arith, bytes_eq, is_none, is_some, nat_eq, nat_le, not, filter, find, list_all, list_any, starts_with, nat_tests, Refusal, earliest, number_end, QueueRow, Flat, queue_at, is_under, submit_refusal, has_children, is_running, Row, IsAt, queues_of, path_at, is_found}
use Rattle.cap_tree.specs.Rows as rows_of

some_not_none : {A : Type 0} (o : Option A) → is_some o ≡ true → is_none o ≡ false
some_not_none (Some x) e = refl
some_not_none None e = absurd (cc e)

tests_are : {K : ℕ} (cluster : Flat K) (path : List ℕ) (missing parent running full spent : Bool) → is_none (queue_at cluster path) ≡ missing → has_children cluster path ≡ parent → is_running cluster path ≡ running →
    nat_le cluster.settings.application_limit (length cluster.apps.active) ≡ full → nat_le number_end cluster.apps.next ≡ spent → submit_refusal cluster path ≡
    earliest ((missing, Refusal.UnknownQueue) ∷ (parent, Refusal.NotLeaf) ∷ (not running, Refusal.QueueStopped) ∷ (full, Refusal.TooManyApplications) ∷ (spent, Refusal.NumbersSpent) ∷ [])
tests_are cluster path missing parent running full spent a b c d e = rw (← a, ← b, ← c, ← d, ← e) refl

module _ {K : ℕ} (cluster : Flat K) (rows : List Row) (path position : List ℕ) (queues : queues_of rows ≡ cluster.settings.queues) (at : IsAt rows path position) where
  there : is_none (queue_at cluster path) ≡ false
  there = some_not_none (queue_at cluster path) (ap (λ (qs : List QueueRow). is_some (find (λ q. bytes_eq q.path path) qs)) (sym queues) ∙ is_found rows path position at)

  children : (b : Bool) → rows_of.has_children rows path ≡ b → has_children cluster path ≡ b
  children b e = ap (λ (qs : List QueueRow). list_any (λ q. starts_with nat_eq q.path (path ++ 46 ∷ [])) qs) (sym queues) ∙ e

  runs : (b : Bool) → rows_of.is_running rows (path_at position rows) ≡ b → is_running cluster path ≡ b
  runs b e = ap (λ (qs : List QueueRow). list_all (λ q. q.running) (filter (λ q. is_under q.path path) qs)) (sym queues) ∙ ap (rows_of.is_running rows) (sym at.path_is) ∙ e

  -- the first test that holds
  pub is_parent : rows_of.has_children rows path ≡ true → submit_refusal cluster path ≡ Some Refusal.NotLeaf
  is_parent p = tests_are cluster path false true _ _ _ there (children true p) refl refl refl

  module _ (leaf : rows_of.has_children rows path ≡ false) where
    pub is_stopped : rows_of.is_running rows (path_at position rows) ≡ false → submit_refusal cluster path ≡ Some Refusal.QueueStopped
    is_stopped s = tests_are cluster path false false false _ _ there (children false leaf) (runs false s) refl refl

    module _ (running : rows_of.is_running rows (path_at position rows) ≡ true) where
      pub is_full : cluster.settings.application_limit ≤ length cluster.apps.active → submit_refusal cluster path ≡ Some Refusal.TooManyApplications
      is_full f = tests_are cluster path false false true true _ there (children false leaf) (runs true running) (grind (arith, nat_tests, f)) refl

      pub is_spent : length cluster.apps.active < cluster.settings.application_limit → number_end ≤ cluster.apps.next → submit_refusal cluster path ≡ Some Refusal.NumbersSpent
      is_spent f s = tests_are cluster path false false true false true there (children false leaf) (runs true running) (grind (arith, nat_tests, f)) (grind (arith, nat_tests, s))

      pub is_free : length cluster.apps.active < cluster.settings.application_limit → cluster.apps.next < number_end → submit_refusal cluster path ≡ None
      is_free f s = tests_are cluster path false false true false false there (children false leaf) (runs true running) (grind (arith, nat_tests, f)) (grind (arith, nat_tests, s))
