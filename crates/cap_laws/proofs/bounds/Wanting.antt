-- A container that is still wanted: fewer reservations than the ask counts. And what a grant or a reservation does to reservations.
use Rattle.cap_laws.proofs.Prelude.{◌≡◌, ℕ, ◌+◌, ◌≤◌, Bool, true, false, List, [], ◌∷◌, refl, sym, ◌∙◌, ap, inl, inr, arith, ◌⊎◌, Option, Some, None, cond, ◌&&◌, ◌==◌, filter, find, map, length, option_and_then, nat_le, list_any, sum_by, nat_tests, sum_by-cons, sum_by-le-sum_by, length-filter, holds_of, same_key, Ask, Flat, App, ClusterNode, Reservation, node_at, is_for, ask_at, reservation_on, Sight, NodeSight, AppSight, sight_of, node_sight, app_sight, seen_app, still_wanted, NodeProposal, is_wanted, IsRising, AreApart, reservations_for, AreThere, ReasonsAreInOrder, WantedIsSeen, IsIn, found, each_of, or_left, or_right, value_of, sum_by_map, sum_of_zeros, one_where, sum_of_two, sum_by_same, cases_Bool, same_key_is}
use Rattle.std.specs.List.{count_by}
use Rattle.cap_laws.proofs.lists.Tables.{count_numbered}
use Rattle.cap_laws.proofs.bounds.Growing.{in_sum}
use Rattle.cap_laws.proofs.choice.Proposers.{IsSeen}

-- nobody else is on the node of one of them
pub none_there : (n m : ℕ) (rs : List Reservation) → list_any (λ (s : Reservation). n == s.node) rs ≡ false → n == m ≡ true → find (λ (s : Reservation). s.node == m) rs ≡ None
none_there n m [] h e = refl
none_there n m (r ∷ rs) h e =
    let away = or_left (n == r.node) (list_any (λ (s : Reservation). n == s.node) rs) h in
    let other : r.node == m ≡ false = grind (arith, nat_tests, away, e) in
    ap (λ b. cond b (Some r) (find (λ (s : Reservation). s.node == m) rs)) other ∙ none_there n m rs (or_right (n == r.node) (list_any (λ (s : Reservation). n == s.node) rs) h) e

here_or_later : (t : Reservation → Bool) (r : Reservation) (b : Bool) (o : Option Reservation) → (b ≡ true → o ≡ None) → one_where (holds_of t (cond b (Some r) o)) ≡ one_where (holds_of t o) + one_where (b && t r)
here_or_later t r true o f = sym (ap (λ p. one_where (holds_of t p) + one_where (t r)) (f refl) ∙ (let z : 0 + one_where (t r) ≡ one_where (t r) = omega arith in z))
here_or_later t r false o f = omega arith

-- reservations of different nodes are no more than the nodes that hold one of them
pub on_nodes : (t : Reservation → Bool) (nodes : List ClusterNode) (rs : List Reservation) → AreApart rs → ((r : Reservation) → IsIn r rs → (x : ClusterNode) × IsIn x nodes × (x.number ≡ r.node)) →
    length (filter t rs) ≤ count_by (λ (x : ClusterNode). holds_of t (find (λ (r : Reservation). r.node == x.number) rs)) nodes
on_nodes t nodes [] a at = omega arith
on_nodes t nodes (r ∷ rs) a at =
    let held : ClusterNode → ℕ = λ x. one_where (holds_of t (find (λ (s : Reservation). s.node == x.number) rs)) in
    let this : ClusterNode → ℕ = λ x. one_where (r.node == x.number && t r) in
    let both : count_by (λ (x : ClusterNode). holds_of t (find (λ (s : Reservation). s.node == x.number) (r ∷ rs))) nodes ≡ sum_by (λ x. held x + this x) nodes =
    sum_by_same (λ (x : ClusterNode). one_where (holds_of t (find (λ (s : Reservation). s.node == x.number) (r ∷ rs)))) (λ x. held x + this x) nodes
    (λ x. here_or_later t r (r.node == x.number) (find (λ (s : Reservation). s.node == x.number) rs) (none_there r.node x.number rs a.0)) in
    let two = sum_of_two held this nodes in
    let w = at r (inl refl) in
    let number : (w.0).number ≡ r.node = w.2 in
    let on : r.node == (w.0).number ≡ true = grind (arith, nat_tests, number) in
    let here : this (w.0) ≡ one_where (t r) = ap (λ b. one_where (b && t r)) on in
    let one = in_sum this nodes (w.0) (w.1) in
    let rest = on_nodes t nodes rs a.1 (λ s m. at s (inr m)) in
    let whole = length-filter t (r ∷ rs) in
    let tail = length-filter t rs in
    let first = sum_by-cons (λ x. one_where (t x)) r rs in
    omega (arith, both, two, here, one, rest, whole, tail, first)

-- what a test of an ask says
asked_is : {K : ℕ} (sight : Sight K) (p : NodeProposal) (app : AppSight) → seen_app sight p.app ≡ Some app → is_wanted sight p ≡ true → (ask : Ask) × (ask_at p.key app.asks ≡ Some ask) × (nat_le 1 (still_wanted sight p.app ask) ≡ true)
asked_is sight p app e h = by (ask_at p.key app.asks) refl (sym (ap (λ o. holds_of (λ ask. nat_le 1 (still_wanted sight p.app ask)) (option_and_then (λ (a : AppSight). ask_at p.key a.asks) o)) e) ∙ h)
  where
    by : (o : Option Ask) → ask_at p.key app.asks ≡ o → holds_of (λ ask. nat_le 1 (still_wanted sight p.app ask)) o ≡ true → (ask : Ask) × (ask_at p.key app.asks ≡ Some ask) × (nat_le 1 (still_wanted sight p.app ask) ≡ true)
    by None f g = absurd (cc g)
    by (Some ask) f g = (ask, f, g)

-- a wanted container: the ask counts more than there are reservations
pub record IsWanted {K : ℕ} (old : Flat K) (p : NodeProposal) (app : App) : Type 0 where
  pub ask : Ask
  pub found : ask_at p.key app.asks ≡ Some ask
  pub count : reservations_for old p.app p.key + 1 ≤ ask.count

module _ {K : ℕ} (old : Flat K) (apart : AreApart old.nodes.reserved) (placed : (r : Reservation) → IsIn r old.nodes.reserved → AreThere old r.app r.node) where
  node_of : (r : Reservation) → IsIn r old.nodes.reserved → (x : ClusterNode) × IsIn x old.nodes.present × (x.number ≡ r.node)
  node_of r m =
      let v = value_of (node_at old r.node) (placed r m).1 in
      let f = found (λ (x : ClusterNode). x.number == r.node) old.nodes.present (v.0) (v.1) in
      (v.0, f.0, (let t = f.1 in grind (arith, nat_tests, t)))

  pub wanted_is : (p : NodeProposal) → (s : IsSeen old p.app) → is_wanted (sight_of old) p ≡ true → IsWanted old p s.app
  wanted_is p s h =
      let a = asked_is (sight_of old) p (app_sight s.app) s.seen h in
      let key : (a.0).key ≡ p.key = same_key_is (a.0).key p.key (found (λ (x : Ask). same_key x.key p.key) s.app.asks (a.0) (a.1)).1 in
      let seen : count_by (λ (x : NodeSight). holds_of (is_for p.app (a.0).key) x.reservation) (map (node_sight old) old.nodes.present)
      ≡ count_by (λ (x : ClusterNode). holds_of (is_for p.app (a.0).key) (reservation_on old x.number)) old.nodes.present =
      sum_by_map (node_sight old) (λ (x : NodeSight). cond (holds_of (is_for p.app (a.0).key) x.reservation) 1 0) old.nodes.present in
      let few = on_nodes (is_for p.app (a.0).key) old.nodes.present old.nodes.reserved apart node_of in
      let same : reservations_for old p.app p.key ≡ reservations_for old p.app (a.0).key = ap (reservations_for old p.app) (sym key) in
      let wanted : 1 ≤ still_wanted (sight_of old) p.app (a.0) = (let t = a.2 in grind (arith, nat_tests, t)) in
      record { ask = a.0; found = a.1; count = omega (arith, seen, few, same, wanted) }

-- what is seen as wanted is what is wanted

same_either_way : (n m : ℕ) → (n == m) ≡ (m == n)
same_either_way n m = grind (arith, nat_tests)

and_less : (a b : Bool) → (one_where (a && b) ≤ one_where a) × (one_where (a && b) ≤ one_where b)
and_less true true = (omega arith, omega arith)
and_less true false = (omega arith, omega arith)
and_less false b = (omega arith, omega arith)

none_counted : (t : Reservation → Bool) (r : Reservation) (nodes : List ClusterNode) → t r ≡ false → sum_by (λ (x : ClusterNode). one_where (r.node == x.number && t r)) nodes ≡ 0
none_counted t r nodes e = sum_of_zeros (λ (x : ClusterNode). one_where (r.node == x.number && t r)) nodes (λ x m. let none : one_where (t r) ≡ 0 = ap one_where e in omega (arith, none, (and_less (r.node == x.number) (t r)).1))

-- on nodes of different numbers there are no more that hold one than reservations
pub nodes_on : (t : Reservation → Bool) (nodes : List ClusterNode) (high : ℕ) (rs : List Reservation) → IsRising 1 (map (λ node. node.number) nodes) high → AreApart rs →
    count_by (λ (x : ClusterNode). holds_of t (find (λ (r : Reservation). r.node == x.number) rs)) nodes ≤ length (filter t rs)
nodes_on t nodes high [] rise a = let zero = sum_of_zeros (λ (x : ClusterNode). one_where false) nodes (λ x m. refl) in omega (arith, zero)
nodes_on t nodes high (r ∷ rs) rise a =
    let held : ClusterNode → ℕ = λ x. one_where (holds_of t (find (λ (s : Reservation). s.node == x.number) rs)) in
    let this : ClusterNode → ℕ = λ x. one_where (r.node == x.number && t r) in
    let both : count_by (λ (x : ClusterNode). holds_of t (find (λ (s : Reservation). s.node == x.number) (r ∷ rs))) nodes ≡ sum_by (λ x. held x + this x) nodes =
    sum_by_same (λ (x : ClusterNode). one_where (holds_of t (find (λ (s : Reservation). s.node == x.number) (r ∷ rs)))) (λ x. held x + this x) nodes
    (λ x. here_or_later t r (r.node == x.number) (find (λ (s : Reservation). s.node == x.number) rs) (none_there r.node x.number rs a.0)) in
    let two = sum_of_two held this nodes in
    let few : sum_by this nodes ≤ one_where (t r) = few_hold t r nodes high rise in
    let rest = nodes_on t nodes high rs rise a.1 in
    let whole = length-filter t (r ∷ rs) in
    let tail = length-filter t rs in
    let first = sum_by-cons (λ x. one_where (t x)) r rs in
    omega (arith, both, two, few, rest, whole, tail, first)
  where
    few_hold : (t : Reservation → Bool) (r : Reservation) (nodes : List ClusterNode) (high : ℕ) → IsRising 1 (map (λ node. node.number) nodes) high → sum_by (λ (x : ClusterNode). one_where (r.node == x.number && t r)) nodes ≤ one_where (t r)
    few_hold t r nodes high rise = by (cases_Bool (t r))
      where
        by : ((t r ≡ true) ⊎ (t r ≡ false)) → sum_by (λ (x : ClusterNode). one_where (r.node == x.number && t r)) nodes ≤ one_where (t r)
        by (inl e) =
            let one : one_where (t r) ≡ 1 = ap one_where e in
            let less = sum_by-le-sum_by (λ (x : ClusterNode). one_where (r.node == x.number && t r)) (λ x. one_where (r.node == x.number)) nodes (λ x. (and_less (r.node == x.number) (t r)).0) in
            let turned : count_by (λ (x : ClusterNode). r.node == x.number) nodes ≡ count_by (λ x. x.number == r.node) nodes = λ i. count_by (λ (x : ClusterNode). same_either_way r.node x.number i) nodes in
            omega (arith, one, less, turned, (count_numbered (λ (x : ClusterNode). x.number) r.node 1 nodes high rise).0)
        by (inr e) = omega (arith, none_counted t r nodes e)

pub wanted_is_seen : WantedIsSeen
wanted_is_seen K old app ask b =
    let seen : count_by (λ (x : NodeSight). holds_of (is_for app ask.key) x.reservation) (map (node_sight old) old.nodes.present) ≡ count_by (λ (x : ClusterNode). holds_of (is_for app ask.key) (reservation_on old x.number)) old.nodes.present =
    sum_by_map (node_sight old) (λ (x : NodeSight). cond (holds_of (is_for app ask.key) x.reservation) 1 0) old.nodes.present in
    let few = on_nodes (is_for app ask.key) old.nodes.present old.nodes.reserved b.apart (node_of old b.apart (each_of (λ (r : Reservation). AreThere old r.app r.node) old.nodes.reserved b.formed.reserved)) in
    let many = nodes_on (is_for app ask.key) old.nodes.present old.nodes.next_node old.nodes.reserved b.formed.nodes b.apart in
    omega (arith, seen, few, many)

pub reasons_are_in_order : ReasonsAreInOrder
reasons_are_in_order K sight p = refl
