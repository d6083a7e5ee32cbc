use Rattle.cap_choice.proofs.Prelude.{◌∙◌, ◌≡◌, ◌+◌, ◌<◌, ◌%◌, sym, subst, ap, arith, length, refl, Option, Some, None, IsSome, NodeSight, NodeProposal, Reservation, choice_on, node_after}
use Rattle.cap_choice.proofs.Passing.{node_at}
use Rattle.cap_choice.proofs.Ring.{chosen_before, more_before, nearest_chosen, one_more_before, some_node, unreserved_none, within_count}
use Rattle.cap_choice.proofs.choice.propose_on.Goals as goal

-- what was found on a node, by whether it holds a reservation
found_is : (node : NodeSight) (result : Option NodeProposal) (choice : Option NodeProposal) (p : NodeProposal) → (IsSome node.reservation → result ≡ choice) → (node.reservation ≡ None → result ≡ None) → result ≡ Some p → Some p ≡ choice
found_is node result choice p reserved unreserved is = by node.reservation refl
  where
    by : (r : Option Reservation) → node.reservation ≡ r → Some p ≡ choice
    by None e = absurd (let n = unreserved e in cc (n, is))
    by (Some r) e = sym is ∙ reserved (subst (λ x. IsSome x) (sym e) cc)

none_is : (node : NodeSight) (result : Option NodeProposal) (choice : Option NodeProposal) → (IsSome node.reservation → result ≡ choice) → (node.reservation ≡ None → None ≡ choice) → result ≡ None → None ≡ choice
none_is node result choice reserved unreserved is = by node.reservation refl
  where
    by : (r : Option Reservation) → node.reservation ≡ r → None ≡ choice
    by None e = unreserved e
    by (Some r) e = sym is ∙ reserved (subst (λ x. IsSome x) (sym e) cc)

pub loop-turn-init : goal.loop-turn-init
loop-turn-init g c =
    let sight = g.F.Farm.sight c.args.farm.now in
    let count = c.node_count-count.ensures.count in
    let first = c.args.start % c.node_count-count.result in
    let within : first < length sight.nodes = subst (λ n. first < n) count (within_count c.args.start c.node_count-count.result c.if-count-eq0.false) in (
      c.next_reserved-turn.ensures.within,
      more_before sight c.args.start first (ap (λ n. c.args.start % n) count) within c.node_count-count.ensures.whole c.nearest_taker-nearest.result.turn c.nearest_taker-nearest.result.proposal c.nearest_taker-nearest.ensures
          0 c.next_reserved-turn.result c.next_reserved-turn.ensures (λ t node less. absurd (omega (arith, less))),
    )

pub returns-in-Some : goal.returns-in-Some
returns-in-Some g c =
    let sight = g.F.Farm.sight c.args.farm.now in
    let count = c.node_count-count.ensures.count in
    let first = c.args.start % c.node_count-count.result in
    let within : first < length sight.nodes = subst (λ n. first < n) count (within_count c.args.start c.node_count-count.result c.if-count-eq0.false) in
    let turn = c.loop-turn.turn in
    let there = some_node sight.nodes first turn within (omega (arith, c.loop-turn-test.true, c.nearest_taker-nearest.ensures.within)) in
    let at = node_at sight.nodes first turn c.wrapped.result c.node_count-count.result there.0 count c.wrapped.ensures.ring there.1 in
    chosen_before sight c.args.start first (ap (λ n. c.args.start % n) count) within c.node_count-count.ensures.whole c.nearest_taker-nearest.result.turn c.nearest_taker-nearest.result.proposal c.nearest_taker-nearest.ensures
    turn there.0 c.in-Some.proposal c.loop-turn-test.true there.1 c.loop-turn.invariant.1
    (found_is there.0 c.conversion.result (choice_on sight there.0.number) c.in-Some.proposal (c.conversion.ensures.reserved there.0 at) (c.conversion.ensures.unreserved there.0 at) c.in-Some.is)

pub loop-turn-preserved : goal.loop-turn-preserved
loop-turn-preserved g c =
    let sight = g.F.Farm.sight c.args.farm.now in
    let count = c.node_count-count.ensures.count in
    let first = c.args.start % c.node_count-count.result in
    let first_is = ap (λ n. c.args.start % n) count in
    let within : first < length sight.nodes = subst (λ n. first < n) count (within_count c.args.start c.node_count-count.result c.if-count-eq0.false) in
    let whole = c.node_count-count.ensures.whole in
    let turn = c.loop-turn.turn in
    let end = c.nearest_taker-nearest.result.turn in
    let proposal = c.nearest_taker-nearest.result.proposal in
    let near = c.nearest_taker-nearest.ensures in
    let here : (node : NodeSight) → node_after sight.nodes first turn ≡ Some node → None ≡ choice_on sight node.number =
    (λ node there.
    let at = node_at sight.nodes first turn c.wrapped.result c.node_count-count.result node count c.wrapped.ensures.ring there in
    none_is node c.conversion.result (choice_on sight node.number) (c.conversion.ensures.reserved node at) (unreserved_none sight c.args.start first first_is within whole end proposal near turn node c.loop-turn-test.true there) c.in_default.is) in (
      c.next_reserved-turn-in-loop-turn.ensures.within,
      more_before sight c.args.start first first_is within whole end proposal near (turn + 1) c.next_reserved-turn-in-loop-turn.result c.next_reserved-turn-in-loop-turn.ensures
          (one_more_before sight c.args.start first first_is within whole end proposal near turn here c.loop-turn.invariant.1),
    )

pub returns : goal.returns
returns g c =
    let sight = g.F.Farm.sight c.args.farm.now in
    let count = c.node_count-count.ensures.count in
    let first = c.args.start % c.node_count-count.result in
    let within : first < length sight.nodes = subst (λ n. first < n) count (within_count c.args.start c.node_count-count.result c.if-count-eq0.false) in
    nearest_chosen sight c.args.start first (ap (λ n. c.args.start % n) count) within c.node_count-count.ensures.whole c.nearest_taker-nearest.result.turn c.nearest_taker-nearest.result.proposal c.nearest_taker-nearest.ensures
    c.loop-turn.turn c.loop-turn-test.false c.loop-turn.invariant.1
