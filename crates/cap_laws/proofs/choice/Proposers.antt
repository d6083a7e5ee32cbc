-- What an admissible proposal is of: its application, its node and the reservation that it replaces.
use Rattle.cap_laws.proofs.Prelude.{◌≡◌, ℕ, Bool, true, false, List, [], ◌∷◌, refl, sym, ◌∙◌, ap, subst, inl, inr, arith, ◌⊎◌, Option, Some, None, IsSome, cond, ◌&&◌, ◌==◌, filter, find, map, option_map, option_and_then, unwrap_or, bytes_eq, nat_tests, bytes_eq-Decides, QueueRow, holds_of, Flat, App, ClusterNode, Reservation, app_at, node_at, is_for, reservation_on, is_under, AppSight, NodeSight, QueueSight, sight_of, app_sight, node_sight, queue_sight, seen_app, seen_node, seen_queue, queues_to, NodeProposal, is_grant, leaf_path, room_replaced, is_reserved_for, node_reservation, stays_in_maximum, stays_in_maxima, IsRising, HasDistinctPaths, IsIn, found, of_filter, in_filter, of_map, in_map, all_in, none_in, cases_Bool, value_of, found_by_number, find_mapped_at}

-- a queue of a list without repeated paths is found by its path
pub found_by_path : (qs : List QueueRow) (q : QueueRow) → HasDistinctPaths qs → IsIn q qs → find (λ r. bytes_eq r.path q.path) qs ≡ Some q
found_by_path [] q d m = absurd m
found_by_path (r ∷ qs) q d (inl e) =
    let same : bytes_eq r.path q.path ≡ true = (bytes_eq-Decides r.path q.path).1 (ap (λ (x : QueueRow). x.path) e) in
    ap (λ b. cond b (Some r) (find (λ x. bytes_eq x.path q.path) qs)) same ∙ ap (λ x. Some x) e
found_by_path (r ∷ qs) q d (inr m) = by (cases_Bool (bytes_eq r.path q.path)) (found_by_path qs q d.1 m)
  where
    by : ((bytes_eq r.path q.path ≡ true) ⊎ (bytes_eq r.path q.path ≡ false)) → find (λ x. bytes_eq x.path q.path) qs ≡ Some q → find (λ x. bytes_eq x.path q.path) (r ∷ qs) ≡ Some q
    by (inl e) f =
        let same : r.path ≡ q.path = (bytes_eq-Decides r.path q.path).0 e in
        let twice : bytes_eq q.path r.path ≡ true = (bytes_eq-Decides q.path r.path).1 (sym same) in
        let no : bytes_eq q.path r.path ≡ false = none_in (λ (x : QueueRow). bytes_eq x.path r.path) qs q d.0 m in
        absurd (cc (twice, no))
    by (inr e) f = ap (λ b. cond b (Some r) (find (λ x. bytes_eq x.path q.path) qs)) e ∙ f

module _ {K : ℕ} (old : Flat K) where
  -- the application of a number that is seen
  pub record IsSeen (n : ℕ) : Type 0 where
    pub app : App
    pub at : app_at old n ≡ Some app
    pub seen : seen_app (sight_of old) n ≡ Some (app_sight app)
    pub registered : app.registered ≡ true

  pub seen_is : IsRising 1 (map (λ app. app.number) old.apps.active) old.apps.next → (n : ℕ) → IsSome (seen_app (sight_of old) n) → IsSeen n
  seen_is r n h =
      let v = value_of (seen_app (sight_of old) n) h in
      let f = found (λ (s : AppSight). s.number == n) (map app_sight (filter (λ app. app.registered) old.apps.active)) (v.0) (v.1) in
      let m = of_map app_sight (filter (λ (app : App). app.registered) old.apps.active) (v.0) (f.0) in
      let g = of_filter (λ (app : App). app.registered) old.apps.active (m.0) (m.1) in
      let number : (m.0).number ≡ n = ap (λ (s : AppSight). s.number) (m.2) ∙ (let e = f.1 in grind (arith, nat_tests, e)) in
      record {
        app = m.0;
        at = subst (λ k. find (λ (app : App). app.number == k) old.apps.active ≡ Some (m.0)) number (found_by_number (λ (app : App). app.number) 1 old.apps.active old.apps.next (m.0) r (g.1));
        seen = v.1 ∙ ap (λ s. Some s) (sym (m.2));
        registered = g.0;
      }

  -- the node of a number that is seen
  pub record IsSeenNode (n : ℕ) : Type 0 where
    pub node : ClusterNode
    pub present : IsIn node old.nodes.present
    pub number : node.number ≡ n
    pub at : node_at old n ≡ Some node
    pub seen : seen_node (sight_of old) n ≡ Some (node_sight old node)

  pub node_seen : (n : ℕ) → IsSome (seen_node (sight_of old) n) → IsSeenNode n
  node_seen n h =
      let e : seen_node (sight_of old) n ≡ option_map (node_sight old) (node_at old n) = find_mapped_at (node_sight old) (λ (s : NodeSight). s.number == n) old.nodes.present in
      by (node_at old n) refl (subst (λ o. IsSome o) e h) e
    where
      by : (o : Option ClusterNode) → node_at old n ≡ o → IsSome (option_map (node_sight old) o) → seen_node (sight_of old) n ≡ option_map (node_sight old) o → IsSeenNode n
      by None a g e = absurd (cc g)
      by (Some x) a g e =
          let f = found (λ (y : ClusterNode). y.number == n) old.nodes.present x a in
          record { node = x; present = f.0; number = (let t = f.1 in grind (arith, nat_tests, t)); at = a; seen = e }

  -- the reservation on a proposal's node, for its application and key
  pub record IsHeldFor (p : NodeProposal) : Type 0 where
    pub reservation : Reservation
    pub among : IsIn reservation old.nodes.reserved
    pub node : reservation.node ≡ p.node
    pub for : is_for p.app p.key reservation ≡ true
    pub held : node_reservation (sight_of old) p ≡ Some reservation

  on_node : (o : Option NodeSight) (r : Reservation) → option_and_then (λ node. node.reservation) o ≡ Some r → IsSome o
  on_node None r g = absurd (cc g)
  on_node (Some s) r g = refl

  pub held_for : (p : NodeProposal) → is_reserved_for (sight_of old) p ≡ true → IsHeldFor p
  held_for p h = by (node_reservation (sight_of old) p) refl h
    where
      by : (o : Option Reservation) → node_reservation (sight_of old) p ≡ o → holds_of (is_for p.app p.key) o ≡ true → IsHeldFor p
      by None e g = absurd (cc g)
      by (Some r) e g =
          let s = node_seen p.node (on_node (seen_node (sight_of old) p.node) r e) in
          let here : reservation_on old s.node.number ≡ Some r = ap (λ o. option_and_then (λ (node : NodeSight). node.reservation) o) (sym s.seen) ∙ e in
          let f = found (λ (x : Reservation). x.node == s.node.number) old.nodes.reserved r here in
          let at : r.node ≡ s.node.number = (let t = f.1 in grind (arith, nat_tests, t)) in
          record { reservation = r; among = f.0; node = at ∙ s.number; for = g; held = e }

  -- what a proposal takes back: nothing, or the reservation on its node, for its application
  pub data IsReplaced (p : NodeProposal) : Type 0 where
    nothing : room_replaced (sight_of old) p ≡ [] → IsReplaced p
    reservation : (h : IsHeldFor p) → room_replaced (sight_of old) p ≡ h.reservation.resource → IsReplaced p

  pub replaced_is : (p : NodeProposal) → IsReplaced p
  replaced_is p = by (is_grant p.kind) (is_reserved_for (sight_of old) p) refl refl
    where
      back : List ℕ
      back = unwrap_or (option_map (λ (r : Reservation). r.resource) (node_reservation (sight_of old) p)) []

      by : (g i : Bool) → is_grant p.kind ≡ g → is_reserved_for (sight_of old) p ≡ i → IsReplaced p
      by true true e f =
          let h = held_for p f in
          IsReplaced.reservation h ((λ j. cond (e j && f j) back []) ∙ ap (λ o. unwrap_or (option_map (λ (r : Reservation). r.resource) o) []) h.held)
      by true false e f = IsReplaced.nothing (λ j. cond (e j && f j) back [])
      by false i e f = IsReplaced.nothing (λ j. cond (e j && is_reserved_for (sight_of old) p) back [])

  -- a queue from the root down to the proposal's leaf stays within its maximum
  pub maximum_stays : (p : NodeProposal) (app : App) → leaf_path (sight_of old) p ≡ app.leaf → stays_in_maxima (sight_of old) p ≡ true → (q : QueueRow) → IsIn q old.settings.queues → is_under q.path app.leaf ≡ true →
      stays_in_maximum (sight_of old) p (queue_sight old q) ≡ true
  maximum_stays p app leaf h q m u =
      all_in (stays_in_maximum (sight_of old) p) (queues_to (sight_of old) (leaf_path (sight_of old) p)) (queue_sight old q) h
      (in_filter (λ (x : QueueSight). is_under x.row.path (leaf_path (sight_of old) p)) (map (queue_sight old) old.settings.queues) (queue_sight old q)
      (in_map (queue_sight old) old.settings.queues q m) (ap (is_under q.path) leaf ∙ u))

  -- the leaf queue as it is seen
  pub leaf_seen : (q : QueueRow) → HasDistinctPaths old.settings.queues → IsIn q old.settings.queues → seen_queue (sight_of old) q.path ≡ Some (queue_sight old q)
  leaf_seen q d m = find_mapped_at (queue_sight old) (λ (x : QueueSight). bytes_eq x.row.path q.path) old.settings.queues ∙ ap (option_map (queue_sight old)) (found_by_path old.settings.queues q d m)
