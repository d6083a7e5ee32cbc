-- Uses and what nodes hold, amount by amount.
use Rattle.cap_model.proofs.Prelude.{◌≡◌, ℕ, ◌+◌, ◌≤◌, ◌<◌, Bool, List, refl, sym, ◌∙◌, ap, Option, option_map, Some, None, ◌==◌, map, if◌then◌else◌, sum_by, sum_by-append, amount, holds_of, part, Flat, App, Container, Reservation, app_at, Holding, holdings, of_container, of_reservation, use_of, node_held, amount_of, amount_past, sum_by_map}

-- the leaf queue and the user of an application
abbrev pub standing : Option App → Option (List ℕ × List ℕ)
standing o = option_map (λ a. (a.leaf, a.user)) o

-- whether what an application holds counts, by its leaf queue and its user
abbrev pub counts : (List ℕ → List ℕ → Bool) → Option App → Bool
counts test o = holds_of (λ a. test a.leaf a.user) o

counts_standing : (test : List ℕ → List ℕ → Bool) (o : Option App) → counts test o ≡ holds_of (λ s. test s.0 s.1) (standing o)
counts_standing test None = refl
counts_standing test (Some a) = refl

pub same_counts : (test : List ℕ → List ℕ → Bool) (o p : Option App) → standing o ≡ standing p → counts test o ≡ counts test p
same_counts test o p e = counts_standing test o ∙ ap (holds_of (λ s. test s.0 s.1)) e ∙ sym (counts_standing test p)

module _ {K : ℕ} (cluster : Flat K) (test : List ℕ → List ℕ → Bool) (k : ℕ) where
  -- what counts of what an application holds
  abbrev pub counted : ℕ → List ℕ → ℕ
  counted app resource = if counts test (app_at cluster app) then amount resource k else 0

  -- what counts of the live containers, and of some reservations
  abbrev pub live_part : List Container → ℕ
  live_part cs = sum_by (λ c. counted c.app c.resource) cs

  abbrev pub reserved_part : List Reservation → ℕ
  reserved_part rs = sum_by (λ r. counted r.app r.resource) rs

  pub use_amount : k < K → amount (use_of cluster (λ a. test a.leaf a.user)) k ≡ live_part cluster.nodes.live + reserved_part cluster.nodes.reserved
  use_amount h =
      amount_of K (part (λ (x : Holding). counts test (app_at cluster x.app)) (λ x. x.resource) (holdings cluster)) k h
      ∙ sum_by-append (λ (x : Holding). counted x.app x.resource) (map of_container cluster.nodes.live) (map of_reservation cluster.nodes.reserved)
      ∙ (λ i. sum_by_map of_container (λ (x : Holding). counted x.app x.resource) cluster.nodes.live i + sum_by_map of_reservation (λ (x : Holding). counted x.app x.resource) cluster.nodes.reserved i)

  pub use_past : K ≤ k → amount (use_of cluster (λ a. test a.leaf a.user)) k ≡ 0
  use_past h = amount_past K (part (λ (x : Holding). counts test (app_at cluster x.app)) (λ x. x.resource) (holdings cluster)) k h

-- what a node's live containers hold
pub held_amount : {K : ℕ} (cluster : Flat K) (n k : ℕ) → k < K → amount (node_held cluster n) k ≡ sum_by (λ (c : Container). if c.node == n then amount c.resource k else 0) cluster.nodes.live
held_amount {K} cluster n k h = amount_of K (part (λ (c : Container). c.node == n) (λ c. c.resource) cluster.nodes.live) k h

pub held_past : {K : ℕ} (cluster : Flat K) (n k : ℕ) → K ≤ k → amount (node_held cluster n) k ≡ 0
held_past {K} cluster n k h = amount_past K (part (λ (c : Container). c.node == n) (λ c. c.resource) cluster.nodes.live) k h
