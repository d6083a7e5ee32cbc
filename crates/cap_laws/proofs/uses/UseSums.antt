-- Uses are sums: at most twice what the nodes have together.
use Rattle.cap_laws.proofs.Prelude.{◌≡◌, ℕ, ◌+◌, ◌≤◌, ◌<◌, Bool, true, false, List, [], ◌∷◌, refl, sym, ◌∙◌, ap, inl, inr, arith, Option, Some, None, IsSome, cond, ◌==◌, find, if◌then◌else◌, sum_by, cases_lt, nat_tests, length-map-range_with_len, sum_by-cons, sum_by-le-sum_by, amount, holds_of, fits, part, Flat, App, ClusterNode, Container, Reservation, app_at, node_at, is_under, Holding, holdings, use_of, node_held, total_of_nodes, AreApart, IsNodeBounded, IsReservationBounded, AreThere, IsBounded, UsesAreSums, IsIn, found, each_of, found_by_number, sum_of_two, counts, counted, use_amount, use_past, held_amount, fits_amounts, value_of}
use Rattle.cap_laws.proofs.bounds.Sizes.{totals_amount}
use Rattle.cap_laws.proofs.bounds.Growing.{in_sum}
use Rattle.cap_laws.proofs.bounds.Wanting.{none_there}

pub if_less : (b : Bool) (n : ℕ) → (if b then n else 0) ≤ n
if_less true n = omega arith
if_less false n = omega arith

pub sum_below : {A : Type 0} (f g : A → ℕ) (xs : List A) → ((x : A) → IsIn x xs → f x ≤ g x) → sum_by f xs ≤ sum_by g xs
sum_below f g [] e = omega arith
sum_below f g (x ∷ xs) e = omega (arith, sum_by-cons f x xs, sum_by-cons g x xs, e x (inl refl), sum_below f g xs (λ y m. e y (inr m)))

-- what runs on the nodes together is what runs
pub on_some_node : (k : ℕ) (nodes : List ClusterNode) (live : List Container) → ((c : Container) → IsIn c live → (x : ClusterNode) × IsIn x nodes × (x.number ≡ c.node)) →
    sum_by (λ (c : Container). amount c.resource k) live ≤ sum_by (λ (x : ClusterNode). sum_by (λ (c : Container). if c.node == x.number then amount c.resource k else 0) live) nodes
on_some_node k nodes [] at = omega arith
on_some_node k nodes (c ∷ live) at =
    let this : ClusterNode → ℕ = λ x. if c.node == x.number then amount c.resource k else 0 in
    let rest : ClusterNode → ℕ = λ x. sum_by (λ (d : Container). if d.node == x.number then amount d.resource k else 0) live in
    let both : sum_by (λ (x : ClusterNode). sum_by (λ (d : Container). if d.node == x.number then amount d.resource k else 0) (c ∷ live)) nodes ≡ sum_by (λ x. this x + rest x) nodes =
    (λ i. sum_by (λ (x : ClusterNode). sum_by-cons (λ (d : Container). if d.node == x.number then amount d.resource k else 0) c live i) nodes) in
    let two = sum_of_two this rest nodes in
    let w = at c (inl refl) in
    let number : (w.0).number ≡ c.node = w.2 in
    let on : c.node == (w.0).number ≡ true = grind (arith, nat_tests, number) in
    let here : this (w.0) ≡ amount c.resource k = ap (λ b. if b then amount c.resource k else 0) on in
    let one = in_sum this nodes (w.0) (w.1) in
    let more = on_some_node k nodes live (λ d m. at d (inr m)) in
    let first = sum_by-cons (λ (d : Container). amount d.resource k) c live in
    omega (arith, both, two, here, one, more, first)

-- what the found reservation takes
abbrev pub taken : ℕ → Option Reservation → ℕ
taken k None = 0
taken k (Some r) = amount r.resource k

taken_here : (k : ℕ) (r : Reservation) (b : Bool) (o : Option Reservation) → (b ≡ true → o ≡ None) → taken k (cond b (Some r) o) ≡ (if b then amount r.resource k else 0) + taken k o
taken_here k r true o f = let none : taken k o ≡ 0 = ap (taken k) (f refl) in omega (arith, none)
taken_here k r false o f = omega arith

pub reserved_on_nodes : (k : ℕ) (nodes : List ClusterNode) (rs : List Reservation) → AreApart rs → ((r : Reservation) → IsIn r rs → (x : ClusterNode) × IsIn x nodes × (x.number ≡ r.node)) →
    sum_by (λ (r : Reservation). amount r.resource k) rs ≤ sum_by (λ (x : ClusterNode). taken k (find (λ (r : Reservation). r.node == x.number) rs)) nodes
reserved_on_nodes k nodes [] a at = omega arith
reserved_on_nodes k nodes (r ∷ rs) a at =
    let this : ClusterNode → ℕ = λ x. if r.node == x.number then amount r.resource k else 0 in
    let rest : ClusterNode → ℕ = λ x. taken k (find (λ (s : Reservation). s.node == x.number) rs) in
    let both : sum_by (λ (x : ClusterNode). taken k (find (λ (s : Reservation). s.node == x.number) (r ∷ rs))) nodes ≡ sum_by (λ x. this x + rest x) nodes =
    (λ i. sum_by (λ (x : ClusterNode). taken_here k r (r.node == x.number) (find (λ (s : Reservation). s.node == x.number) rs) (none_there r.node x.number rs a.0) i) nodes) in
    let two = sum_of_two this rest nodes in
    let w = at r (inl refl) in
    let number : (w.0).number ≡ r.node = w.2 in
    let on : r.node == (w.0).number ≡ true = grind (arith, nat_tests, number) in
    let here : this (w.0) ≡ amount r.resource k = ap (λ b. if b then amount r.resource k else 0) on in
    let one = in_sum this nodes (w.0) (w.1) in
    let more = reserved_on_nodes k nodes rs a.1 (λ s m. at s (inr m)) in
    let first = sum_by-cons (λ (s : Reservation). amount s.resource k) r rs in
    omega (arith, both, two, here, one, more, first)

module _ {K : ℕ} (cluster : Flat K) (b : IsBounded cluster) where
  node_is : (n : ℕ) → IsSome (node_at cluster n) → (x : ClusterNode) × IsIn x cluster.nodes.present × (x.number ≡ n)
  node_is n h =
      let v = value_of (node_at cluster n) h in
      let f = found (λ (x : ClusterNode). x.number == n) cluster.nodes.present (v.0) (v.1) in
      (v.0, f.0, (let t = f.1 in grind (arith, nat_tests, t)))

  -- what a reservation takes fits the node that it is on
  takes_less : (k : ℕ) (x : ClusterNode) → IsIn x cluster.nodes.present → (o : Option Reservation) → find (λ (r : Reservation). r.node == x.number) cluster.nodes.reserved ≡ o → taken k o ≤ amount x.total k
  takes_less k x m None e = omega arith
  takes_less k x m (Some r) e =
      let f = found (λ (s : Reservation). s.node == x.number) cluster.nodes.reserved r e in
      let number : r.node ≡ x.number = (let t = f.1 in grind (arith, nat_tests, t)) in
      let at : node_at cluster r.node ≡ Some x = ap (node_at cluster) number ∙ found_by_number (λ (y : ClusterNode). y.number) 1 cluster.nodes.present cluster.nodes.next_node x b.formed.nodes m in
      let bounded = each_of (IsReservationBounded cluster) cluster.nodes.reserved b.reservations r (f.0) in
      let fitting : fits r.resource x.total ≡ true = ap (holds_of (λ (node : ClusterNode). fits r.resource node.total)) (sym at) ∙ bounded.node in
      fits_amounts r.resource x.total fitting k

  live_within : (k : ℕ) → k < K → sum_by (λ (c : Container). amount c.resource k) cluster.nodes.live ≤ amount (total_of_nodes cluster) k
  live_within k h =
      let placed = each_of (λ (c : Container). AreThere cluster c.app c.node) cluster.nodes.live b.formed.live in
      let spread = on_some_node k cluster.nodes.present cluster.nodes.live (λ c m. node_is c.node (placed c m).1) in
      let each = sum_below (λ (x : ClusterNode). sum_by (λ (c : Container). if c.node == x.number then amount c.resource k else 0) cluster.nodes.live) (λ x. amount x.total k) cluster.nodes.present
      (λ x m.
      let held = held_amount cluster x.number k h in
      let f = fits_amounts (node_held cluster x.number) x.total (each_of (IsNodeBounded cluster) cluster.nodes.present b.nodes x m) k in
      omega (arith, held, f)) in
      let totals = totals_amount cluster k h in
      omega (arith, spread, each, totals)

  reserved_within : (k : ℕ) → k < K → sum_by (λ (r : Reservation). amount r.resource k) cluster.nodes.reserved ≤ amount (total_of_nodes cluster) k
  reserved_within k h =
      let placed = each_of (λ (r : Reservation). AreThere cluster r.app r.node) cluster.nodes.reserved b.formed.reserved in
      let spread = reserved_on_nodes k cluster.nodes.present cluster.nodes.reserved b.apart (λ r m. node_is r.node (placed r m).1) in
      let each = sum_below (λ (x : ClusterNode). taken k (find (λ (r : Reservation). r.node == x.number) cluster.nodes.reserved)) (λ x. amount x.total k) cluster.nodes.present
      (λ x m. takes_less k x m (find (λ (r : Reservation). r.node == x.number) cluster.nodes.reserved) refl) in
      let totals = totals_amount cluster k h in
      omega (arith, spread, each, totals)

  -- a use is at most twice the totals
  use_within : (test : List ℕ → List ℕ → Bool) (k : ℕ) → k < K → amount (use_of cluster (λ a. test a.leaf a.user)) k ≤ amount (total_of_nodes cluster) k + amount (total_of_nodes cluster) k
  use_within test k h =
      let whole = use_amount cluster test k h in
      let live = sum_by-le-sum_by (λ (c : Container). counted cluster test k c.app c.resource) (λ c. amount c.resource k) cluster.nodes.live (λ c. if_less (counts test (app_at cluster c.app)) (amount c.resource k)) in
      let reserved = sum_by-le-sum_by (λ (r : Reservation). counted cluster test k r.app r.resource) (λ r. amount r.resource k) cluster.nodes.reserved (λ r. if_less (counts test (app_at cluster r.app)) (amount r.resource k)) in
      let a = live_within k h in
      let c = reserved_within k h in
      omega (arith, whole, live, reserved, a, c)

pub uses_are_sums : UsesAreSums
uses_are_sums K cluster b sizes path = record {
  count = length-map-range_with_len (part (λ (h : Holding). holds_of (λ (a : App). is_under path a.leaf) (app_at cluster h.app)) (λ h. h.resource) (holdings cluster)) 0 K;
  within = λ k. elim (cases_lt k K) [
    | inl h ↦ (let u = use_within cluster b (λ leaf user. is_under path leaf) k h in let t = sizes.totals k in omega (arith, u, t))
    | inr p ↦ omega (arith, use_past cluster (λ leaf user. is_under path leaf) k p)
  ];
}
