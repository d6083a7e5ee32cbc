-- A step keeps a cluster within its sizes.
use Rattle.cap_laws.proofs.Prelude.{◌≡◌, ℕ, ◌≤◌, ◌<◌, true, List, [], ◌∷◌, length, ap, inl, inr, arith, not, ◌==◌, filter, sum_by, cases_lt, length-append, length-map, sum_by_push, amount, amount_max, IsWithin, amount-plus, number_end, nodes_max, Request, Reply, part, Flat, ClusterNode, total_of_nodes, IsWithinSizes, SizesStay, RunsStayWithinSizes, OpenedIsWithinSizes, sum_by_map, amount_of, amount_past, length-kept}
use Rattle.cap_laws.proofs.lists.Parts.{part_filter, part_sum}
use Rattle.cap_laws.proofs.lists.Tables.{TableMoves}
use Rattle.cap_laws.proofs.calls.Registering.{may_join, may_enter}
use Rattle.cap_laws.proofs.calls.Steps.{Effect, by_step, at_each}
use Rattle.cap_laws.proofs.numbers.ContainerNumbers.{call_thins}
use Rattle.cap_laws.proofs.calls.Moves.{AppsMove, NodesMove, call_moves, call_nodes}

-- nodes within the sizes
pub record AreNodesWithin (K : ℕ) (nodes : List ClusterNode) (next : ℕ) : Type 0 where
  pub totals : (k : ℕ) → k < K → sum_by (λ (x : ClusterNode). amount x.total k) nodes ≤ amount_max
  pub few : length nodes ≤ nodes_max
  pub numbers : next ≤ number_end

module _ {K : ℕ} where
  pub totals_amount : (cluster : Flat K) (k : ℕ) → k < K → amount (total_of_nodes cluster) k ≡ sum_by (λ (x : ClusterNode). amount x.total k) cluster.nodes.present
  totals_amount cluster k h = amount_of K (part (λ (x : ClusterNode). true) (λ x. x.total) cluster.nodes.present) k h

  of_nodes : (cluster : Flat K) → AreNodesWithin K cluster.nodes.present cluster.nodes.next_node → IsWithin amount_max (total_of_nodes cluster)
  of_nodes cluster a k = elim (cases_lt k K) [
    | inl h ↦ (let t = totals_amount cluster k h in let b = a.totals k h in omega (arith, t, b))
    | inr p ↦ omega (arith, amount_past K (part (λ (x : ClusterNode). true) (λ x. x.total) cluster.nodes.present) k p)
  ]

  nodes_within : (old new : Flat K) → NodesMove old new → IsWithinSizes old → AreNodesWithin K new.nodes.present new.nodes.next_node
  nodes_within old new (TableMoves.change f number total e n) s = rw (e, n) (record {
    totals = λ k h.
        let mapped = sum_by_map f (λ (x : ClusterNode). amount x.total k) old.nodes.present in
        let same : sum_by (λ (x : ClusterNode). amount (f x).total k) old.nodes.present ≡ sum_by (λ (x : ClusterNode). amount x.total k) old.nodes.present = λ i. sum_by (λ (x : ClusterNode). amount (total x i) k) old.nodes.present in
        omega (arith, mapped, same, totals_amount old k h, s.totals k);
    few = omega (arith, length-map old.nodes.present f, s.nodes);
    numbers = s.node_numbers;
  })
  nodes_within old new (TableMoves.goes m gone e n) s = rw (e, n) (record {
    totals = λ k h.
        omega (arith, totals_amount old k h, s.totals k, part_sum (λ (x : ClusterNode). amount x.total k) old.nodes.present (filter (λ x. not (x.number == m)) old.nodes.present) (part_filter (λ x. not (x.number == m)) old.nodes.present));
    few = omega (arith, s.nodes, length-kept (λ (x : ClusterNode). not (x.number == m)) old.nodes.present);
    numbers = s.node_numbers;
  })
  nodes_within old new (TableMoves.comes x number unrefused e n) s =
      let may = may_join old x.host x.total unrefused in
      rw (e, n) (record {
        totals = λ k h. omega (arith, sum_by_push (λ (x : ClusterNode). amount x.total k) old.nodes.present x, totals_amount old k h, amount-plus (total_of_nodes old) x.total k, may.within k);
        few = omega (arith, length-append old.nodes.present (x ∷ []), may.few);
        numbers = omega (arith, may.numbered);
      })

  app_numbers : (old new : Flat K) → AppsMove old new → old.apps.next ≤ number_end → new.apps.next ≤ number_end
  app_numbers old new (TableMoves.change f number k e n) h = omega (arith, n, h)
  app_numbers old new (TableMoves.goes m gone e n) h = omega (arith, n, h)
  app_numbers old new (TableMoves.comes a number unrefused e n) h = omega (arith, n, (may_enter old a.leaf unrefused).numbered)

  call_sizes : (old new : Flat K) {request : Request K} {reply : Reply K} → IsWithinSizes old → Effect old request reply new → IsWithinSizes new
  call_sizes old new s call =
      let a = nodes_within old new (call_nodes old new call) s in
      let t = call_thins old new call in
      let same : length new.nodes.live ≡ length (filter t.test old.nodes.live) = ap length t.live in
      record {
        totals = of_nodes new a;
        nodes = a.few;
        live = omega (arith, length-kept t.test old.nodes.live, same, s.live);
        app_numbers = app_numbers old new (call_moves old new call) s.app_numbers;
        node_numbers = a.numbers;
        container_numbers = omega (arith, t.next, s.container_numbers);
      }

pub sizes_stay : SizesStay
sizes_stay K old new event s step =
    by_step old (λ e x. IsWithinSizes x) (λ by request reply x call. call_sizes old x s call)
    (λ c admissible number. record {
      totals = s.totals;
      nodes = s.nodes;
      live = omega (arith, (admissible.0).few_live, length-append old.nodes.live (c ∷ []));
      app_numbers = s.app_numbers;
      node_numbers = s.node_numbers;
      container_numbers = omega (arith, (admissible.0).numbers_left);
    })
    (λ r admissible. record { totals = s.totals; nodes = s.nodes; live = s.live; app_numbers = s.app_numbers; node_numbers = s.node_numbers; container_numbers = s.container_numbers }) event new step

pub runs_stay_within_sizes : RunsStayWithinSizes
runs_stay_within_sizes K first rest old new s run = at_each IsWithinSizes (sizes_stay K) first rest old new s run

pub opened_is_within_sizes : OpenedIsWithinSizes
opened_is_within_sizes K settings = record {
  totals = λ k. elim (cases_lt k K) [
    | inl h ↦ omega (arith, amount_of K (part (λ (x : ClusterNode). true) (λ x. x.total) []) k h)
    | inr p ↦ omega (arith, amount_past K (part (λ (x : ClusterNode). true) (λ x. x.total) []) k p)
  ];
  nodes = omega arith;
  live = omega arith;
  app_numbers = omega arith;
  node_numbers = omega arith;
  container_numbers = omega arith;
}
