-- What the sight of a cluster shows of applications, nodes and reservations is what its tables have.
use Rattle.cap_commit.proofs.Prelude.{◌≡◌, ℕ, ◌-◌, Bool, true, false, cond, List, length, Some, None, refl, sym, ◌∙◌, ap, subst, arith, ◌↔◌, IsTrue, Option, IsSome, is_some, option_map, option_and_then, ◌==◌, ◌&&◌, find, filter, map, nat_le, nat_lt, count_by, nat_tests, Fits, less, holds_of, fits, Ask, IsRising, Flat, App, ClusterNode, Reservation, app_at, node_at, is_for, reservation_on, held_on, AppSight, NodeSight, sight_of, app_sight, node_sight, seen_app, seen_node, still_wanted, NodeProposal, is_grant, is_wanted, node_reservation, proposed_ask, fits_free, fits_total, IsIn, found, each_of, in_filter, find_mapped_at, found_by_number, rising_kept, sum_by_map, value_of, not_none, same_test, amounts_fit, fits_amounts, seen_is, nodes_on, on_nodes, Load, IsLoadIn, free_on, AreReserved, fits_its_node, Parts, AreConsistent, flat_of, load_sight, own_reservation, its_node_there}

module _ {K : ℕ} (p : Parts K) (h : AreConsistent p) where
  abbrev cluster : Flat K
  cluster = flat_of p

  -- nodes
  pub node_is_seen : (n : ℕ) → seen_node (sight_of cluster) n ≡ option_map (node_sight cluster) (node_at cluster n)
  node_is_seen n = find_mapped_at (node_sight cluster) (λ (s : NodeSight). s.number == n) cluster.nodes.present

  pub node_seen : {o : Option ClusterNode} (n : ℕ) → o ≡ node_at cluster n → option_map (node_sight cluster) o ≡ seen_node (sight_of cluster) n
  node_seen n e = ap (option_map (node_sight cluster)) e ∙ sym (node_is_seen n)

  pub node_there : (n : ℕ) → is_some (seen_node (sight_of cluster) n) ≡ is_some (node_at cluster n)
  node_there n = ap is_some (node_is_seen n) ∙ by (node_at cluster n)
    where
      by : (o : Option ClusterNode) → is_some (option_map (node_sight cluster) o) ≡ is_some o
      by None = refl
      by (Some x) = refl

  pub number_of : (n : ℕ) (x : ClusterNode) → node_at cluster n ≡ Some x → x.number ≡ n
  number_of n x e = let t = (found (λ (y : ClusterNode). y.number == n) cluster.nodes.present x e).1 in grind (arith, nat_tests, t)

  pub load_seen : (n : ℕ) (x : Load) → Some x.node ≡ node_at cluster n → IsLoadIn K p.nodes x → Some (load_sight x) ≡ seen_node (sight_of cluster) n
  load_seen n x at is =
      (λ i. Some (record { number = x.node.number; host = x.node.host; rack = x.node.rack; total = x.node.total; free = less x.node.total (is.held i); reservation = is.reservation i }))
      ∙ node_seen n at

  pub free_seen : (q : NodeProposal) → fits_free (sight_of cluster) q ≡ cond (is_some (node_at cluster q.node)) (fits q.resource (free_on K cluster.nodes q.node)) false
  free_seen q = ap (holds_of (λ (node : NodeSight). fits q.resource node.free)) (node_is_seen q.node) ∙ by (node_at cluster q.node) refl
    where
      by : (o : Option ClusterNode) → node_at cluster q.node ≡ o → holds_of (λ (node : NodeSight). fits q.resource node.free) (option_map (node_sight cluster) o) ≡ cond (is_some o) (fits q.resource (free_on K cluster.nodes q.node)) false
      by None e = refl
      by (Some x) e =
          ap (λ n. fits q.resource (less x.total (held_on K cluster.nodes n))) (number_of q.node x e)
          ∙ ap (λ o. fits q.resource (Rattle.cap_nodes.specs.Tables.left_of o (held_on K cluster.nodes q.node))) (sym e)

  pub total_seen : (q : NodeProposal) → fits_total (sight_of cluster) q ≡ holds_of (λ node. fits q.resource node.total) (node_at cluster q.node)
  total_seen q = ap (holds_of (λ (node : NodeSight). fits q.resource node.total)) (node_is_seen q.node) ∙ by (node_at cluster q.node)
    where
      by : (o : Option ClusterNode) → holds_of (λ (node : NodeSight). fits q.resource node.total) (option_map (node_sight cluster) o) ≡ holds_of (λ (node : ClusterNode). fits q.resource node.total) o
      by None = refl
      by (Some x) = refl

  -- applications
  module _ (rising : IsRising 1 (map (λ app. app.number) cluster.apps.active) cluster.apps.next) (n : ℕ) where
    pub app_is_seen : (a : App) → app_at cluster n ≡ Some a → a.registered ≡ true → seen_app (sight_of cluster) n ≡ Some (app_sight a)
    app_is_seen a e r =
        let f = found (λ (x : App). x.number == n) cluster.apps.active a e in
        let number : a.number ≡ n = (let t = f.1 in grind (arith, nat_tests, t)) in
        let kept = in_filter (λ (x : App). x.registered) cluster.apps.active a (f.0) r in
        let rise = rising_kept (λ (x : App). x.number) (λ (x : App). x.registered) 1 cluster.apps.active cluster.apps.next rising in
        let at = found_by_number (λ (x : App). x.number) 1 (filter (λ (x : App). x.registered) cluster.apps.active) cluster.apps.next a rise kept in
        find_mapped_at app_sight (λ (s : AppSight). s.number == n) (filter (λ (x : App). x.registered) cluster.apps.active)
        ∙ ap (λ k. option_map app_sight (find (λ (x : App). x.number == k) (filter (λ (x : App). x.registered) cluster.apps.active))) (sym number) ∙ ap (option_map app_sight) at

    none_of : (o : Option AppSight) → (IsSome o → ⊥) → o ≡ None
    none_of None f = refl
    none_of (Some x) f = absurd (f refl)

    pub app_off : (x : App) → app_at cluster n ≡ Some x → x.registered ≡ false → seen_app (sight_of cluster) n ≡ None
    app_off x e off = none_of (seen_app (sight_of cluster) n) (λ t. let s = seen_is cluster rising n t in let at = s.at in let on = s.registered in let same : Some x ≡ Some s.app = sym e ∙ at in cc (same, off, on))

    pub app_gone : app_at cluster n ≡ None → seen_app (sight_of cluster) n ≡ None
    app_gone e = none_of (seen_app (sight_of cluster) n) (λ t. let s = seen_is cluster rising n t in let at = s.at in cc (e, at))

  -- reservations
  abbrev a : AreReserved cluster.nodes.present cluster.nodes.reserved
  a = h.reservations

  pub reservation_is_seen : (q : NodeProposal) → node_reservation (sight_of cluster) q ≡ find (λ r. r.node == q.node) cluster.nodes.reserved
  reservation_is_seen q = ap (option_and_then (λ (node : NodeSight). node.reservation)) (node_is_seen q.node) ∙ by (node_at cluster q.node) refl
    where
      none_here : node_at cluster q.node ≡ None → (o : Option Reservation) → find (λ (r : Reservation). r.node == q.node) cluster.nodes.reserved ≡ o → None ≡ o
      none_here e None g = refl
      none_here e (Some r) g =
          let f = found (λ (x : Reservation). x.node == q.node) cluster.nodes.reserved r g in
          let at : r.node ≡ q.node = (let t = f.1 in grind (arith, nat_tests, t)) in
          let there = its_node_there cluster.nodes.present r (each_of (λ (x : Reservation). fits_its_node cluster.nodes.present x ≡ true) cluster.nodes.reserved a.fit r (f.0)) in
          absurd (not_none (node_at cluster q.node) e (subst (λ n. IsSome (node_at cluster n)) at there))

      by : (o : Option ClusterNode) → node_at cluster q.node ≡ o → option_and_then (λ (node : NodeSight). node.reservation) (option_map (node_sight cluster) o) ≡ find (λ (r : Reservation). r.node == q.node) cluster.nodes.reserved
      by None e = none_here e (find (λ (r : Reservation). r.node == q.node) cluster.nodes.reserved) refl
      by (Some x) e = ap (λ n. find (λ (r : Reservation). r.node == n) cluster.nodes.reserved) (number_of q.node x e)

  -- the reservation that a grant converts
  pub own_is : (q : NodeProposal) (o : Option Reservation) → find (λ r. r.node == q.node) cluster.nodes.reserved ≡ o → own_reservation (sight_of cluster) q ≡ cond (is_grant q.kind && holds_of (is_for q.app q.key) o) o None
  own_is q o e =
      let same : node_reservation (sight_of cluster) q ≡ o = reservation_is_seen q ∙ e in
      λ i. cond (is_grant q.kind && holds_of (is_for q.app q.key) (same i)) (same i) None

  node_of : (r : Reservation) → IsIn r cluster.nodes.reserved → (x : ClusterNode) × IsIn x cluster.nodes.present × (x.number ≡ r.node)
  node_of r m =
      let there = its_node_there cluster.nodes.present r (each_of (λ (x : Reservation). fits_its_node cluster.nodes.present x ≡ true) cluster.nodes.reserved a.fit r m) in
      let v = value_of (node_at cluster r.node) there in
      let f = found (λ (x : ClusterNode). x.number == r.node) cluster.nodes.present (v.0) (v.1) in
      (v.0, f.0, number_of r.node (v.0) (v.1))

  -- what is still wanted: what the ask counts, less the reservations for it
  pub wanted_seen : IsRising 1 (map (λ node. node.number) cluster.nodes.present) cluster.nodes.next_node → (app : ℕ) (ask : Ask) →
      still_wanted (sight_of cluster) app ask ≡ ask.count - length (filter (is_for app ask.key) cluster.nodes.reserved)
  wanted_seen rising app ask =
      let seen : count_by (λ (x : NodeSight). holds_of (is_for app ask.key) x.reservation) (map (node_sight cluster) cluster.nodes.present) ≡ count_by (λ (x : ClusterNode). holds_of (is_for app ask.key) (reservation_on cluster x.number)) cluster.nodes.present =
      sum_by_map (node_sight cluster) (λ (x : NodeSight). cond (holds_of (is_for app ask.key) x.reservation) 1 0) cluster.nodes.present in
      let few = on_nodes (is_for app ask.key) cluster.nodes.present cluster.nodes.reserved a.apart node_of in
      let many = nodes_on (is_for app ask.key) cluster.nodes.present cluster.nodes.next_node cluster.nodes.reserved rising a.apart in
      omega (arith, seen, few, many)

  pub wants_seen : IsRising 1 (map (λ node. node.number) cluster.nodes.present) cluster.nodes.next_node → (q : NodeProposal) (ask : Ask) → proposed_ask (sight_of cluster) q ≡ Some ask →
      is_wanted (sight_of cluster) q ≡ nat_lt (length (filter (is_for q.app ask.key) cluster.nodes.reserved)) ask.count
  wants_seen rising q ask asked =
      let w = wanted_seen rising q.app ask in
      ap (holds_of (λ (x : Ask). nat_le 1 (still_wanted (sight_of cluster) q.app x))) asked ∙ less_than (still_wanted (sight_of cluster) q.app ask) ask.count (length (filter (is_for q.app ask.key) cluster.nodes.reserved)) w
    where
      less_than : (w count few : ℕ) → w ≡ count - few → nat_le 1 w ≡ nat_lt few count
      less_than w count few e = grind (arith, nat_tests, e)

-- whether one vector fits another
pub fits_is : (b : Bool) (v most : List ℕ) → (IsTrue b ↔ Fits v most) → b ≡ fits v most
fits_is b v most e = same_test b (fits v most) (λ t. amounts_fit v most (e.0 t)) (λ t. e.1 (fits_amounts v most t))
