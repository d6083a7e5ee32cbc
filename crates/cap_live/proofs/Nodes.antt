-- The nodes of a cluster, as its sight shows them.
use Rattle.cap_live.proofs.Prelude.{◌≡◌, ℕ, ◌+◌, ◌≤◌, ◌<◌, Bool, false, cond, ◌&&◌, List, map, length, Option, Some, None, refl, sym, ◌∙◌, ap, subst, arith, inl, inr, ◌==◌, All, option_map, slice_get, is_none, is_some, IsSome, IsTrue, ◌↔◌, cases_lt, same_Some, same_test, length-map, slice_get-map, find_mapped_at, of_each, of_map, found_by_number, IsRising, amounts_fit, fits_amounts, fits, Fits, less, Ask, takes_place, ClusterNode, Flat, NodeTable, Reservation, NodeSight, node_sight, seen_node, sight_of, could_take, Load, IsLoadIn, load_sight, IsReserved, IsTurn, IsUnfit, kind_by_room, ring_index, taken_as, true, amount, amount-less, held_on, Grant, Reserve, All-map, All-weaker, get_or_from_slice_get, slice_get_within}

module _ {K : ℕ} (flat : Flat K) where
  pub count_is : length (sight_of flat).nodes ≡ length flat.nodes.present
  count_is = length-map flat.nodes.present (node_sight flat)

  pub within : (i : ℕ) (table : NodeTable) → table ≡ flat.nodes → i < length (sight_of flat).nodes → i < length table.present
  within i table same lt = let n = count_is in let m = ap (λ (t : NodeTable). length t.present) same in omega (arith, lt, n, m)

  -- the node at an index
  pub load_at : (i : ℕ) (x : Load) (table : NodeTable) → table ≡ flat.nodes → slice_get table.present i ≡ Some x.node → IsLoadIn K table x → slice_get (sight_of flat).nodes i ≡ Some (load_sight x)
  load_at i x table same at is =
      let l = subst (λ t. IsLoadIn K t x) same is in
      slice_get-map (node_sight flat) flat.nodes.present i
      ∙ ap (option_map (node_sight flat)) (subst (λ (t : NodeTable). slice_get t.present i ≡ Some x.node) same at)
      ∙ sym (λ k. Some (record { number = x.node.number; host = x.node.host; rack = x.node.rack; total = x.node.total; free = less x.node.total (l.held k); reservation = l.reservation k }))

  pub nodes_whole : IsRising 1 (map (λ node. node.number) flat.nodes.present) flat.nodes.next_node → All (λ node. seen_node (sight_of flat) node.number ≡ Some node) (sight_of flat).nodes
  nodes_whole rising =
      of_each (λ (s : NodeSight). seen_node (sight_of flat) s.number ≡ Some s) (sight_of flat).nodes
      (λ s m.
      let x = of_map (node_sight flat) flat.nodes.present s m in
      subst (λ (n : NodeSight). seen_node (sight_of flat) n.number ≡ Some n) (x.2)
      (find_mapped_at (node_sight flat) (λ (n : NodeSight). n.number == (x.0).number) flat.nodes.present
      ∙ ap (option_map (node_sight flat)) (found_by_number (λ (y : ClusterNode). y.number) 1 flat.nodes.present flat.nodes.next_node (x.0) rising (x.1))))

-- whether one vector fits another, as the code tests it
pub fit_is : (b : Bool) (v most : List ℕ) → (IsTrue b ↔ Fits v most) → b ≡ fits v most
fit_is b v most e = same_test b (fits v most) (λ t. amounts_fit v most (e.0 t)) (λ t. e.1 (fits_amounts v most t))

pub held_none : (o : Option Reservation) → is_some o ≡ false → o ≡ None
held_none None e = refl
held_none (Some r) e = absurd (cc e)

-- the turns of a ring over which a loop passes
module _ (P : NodeSight → Type 0) (nodes : List NodeSight) (first : ℕ) where
  pub no_turn : (turn : ℕ) → turn ≤ length nodes → IsTurn P nodes first turn turn
  no_turn turn le = record { later = omega arith; within = le; passed = λ t node from before at. absurd (omega (arith, from, before)) }

  pub next_turn : (from turn index count : ℕ) (x : NodeSight) → turn < count → count ≡ length nodes → index ≡ ring_index first turn count → slice_get nodes index ≡ Some x → P x → IsTurn P nodes first from turn → IsTurn P nodes first from (turn + 1)
  next_turn from turn index count x lt count_is index_is at holds t = record {
    later = (let l = t.later in omega (arith, l));
    within = omega (arith, lt, count_is);
    passed = λ n node le before there. elim (cases_lt n turn) [
      | inl early ↦ t.passed n node le early there
      | inr late ↦
          let same : turn ≡ n = omega (arith, before, late) in
          subst P (same_Some x node (sym at ∙ ap (slice_get nodes) (index_is ∙ (λ i. ring_index first (same i) (count_is i))) ∙ there)) holds
    ];
  }

  pub until : (from turn end : ℕ) → end ≤ turn → (from ≤ end → turn ≤ end) → from ≤ end → IsTurn P nodes first from turn → IsTurn P nodes first from end
  until from turn end far near le t = subst (IsTurn P nodes first from) (let n = near le in omega (arith, far, n)) t

-- a node that holds a reservation takes no ask
pub unfit : (ask : Ask) (nodes : List NodeSight) (first from to : ℕ) → IsTurn IsReserved nodes first from to → IsTurn (IsUnfit ask) nodes first from to
unfit ask nodes first from to t = record { later = t.later; within = t.within; passed = λ n node le lt at. by node.reservation node refl (t.passed n node le lt at) }
  where
    by : (o : Option Reservation) (node : NodeSight) → node.reservation ≡ o → IsSome o → taken_as node ask ≡ None
    by None node e some = absurd (cc some)
    by (Some r) node e some = ap (λ x. cond (is_none x && takes_place ask.place node) (kind_by_room node ask) None) e

-- where no node could take an ask, not even one that is empty, no node takes it
module _ {K : ℕ} (flat : Flat K) (ask : Ask) where
  pub unfit_of : (node : ClusterNode) → could_take ask.place ask.resource node ≡ false → IsUnfit ask (node_sight flat node)
  unfit_of node off = by (is_none s.reservation) (takes_place ask.place s) (fits ask.resource s.total) (fits ask.resource s.free) refl refl off
    where
      s : NodeSight
      s = node_sight flat node

      by : (r t f g : Bool) → fits ask.resource s.total ≡ f → fits ask.resource s.free ≡ g → t && f ≡ false → cond (r && t) (cond g (Some Grant) (cond f (Some Reserve) None)) None ≡ None
      by false t f g total free e = refl
      by true false f g total free e = refl
      by true true true g total free e = absurd (cc e)
      by true true false false total free e = refl
      by true true false true total free e =
          let fit : (k : ℕ) → amount ask.resource k ≤ amount s.total k = λ k.
          let low = fits_amounts ask.resource s.free free k in let left = amount-less node.total (held_on K flat.nodes node.number) k in omega (arith, low, left) in
          absurd (cc (sym total ∙ amounts_fit ask.resource s.total fit))

  pub none_fits : (table : NodeTable) → table ≡ flat.nodes → All (λ node. could_take ask.place ask.resource node ≡ false) table.present → (first turn count : ℕ) → turn ≤ length (sight_of flat).nodes → count ≡ length table.present →
      IsTurn (IsUnfit ask) (sight_of flat).nodes first turn count
  none_fits table same none first turn count le is =
      let whole : count ≡ length (sight_of flat).nodes = is ∙ ap (λ (t : NodeTable). length t.present) same ∙ sym (count_is flat) in
      let here = subst (λ (t : NodeTable). All (λ node. could_take ask.place ask.resource node ≡ false) t.present) same none in
      let unfit = All-map (IsUnfit ask) (node_sight flat) flat.nodes.present (All-weaker (λ node. could_take ask.place ask.resource node ≡ false) (λ node. IsUnfit ask (node_sight flat node)) unfit_of flat.nodes.present here) in
      record {
        later = omega (arith, le, whole);
        within = omega (arith, whole);
        passed = λ n node from before at.
            let i = ring_index first n (length (sight_of flat).nodes) in
            subst (IsUnfit ask) (get_or_from_slice_get (sight_of flat).nodes i node node at) (unfit i node (slice_get_within (sight_of flat).nodes i node at));
      }
