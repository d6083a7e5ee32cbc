use Rattle.cap_live.proofs.Prelude.{◌∙◌, ap, sym, arith, length, inl, is_some, sight_of, ClusterState, NodeTable, load_sight, IsIdle}
use Rattle.cap_live.proofs.Nodes.{count_is, held_none, load_at, next_turn, no_turn, until}
use Rattle.cap_live.proofs.Sizes.{cluster_of_few, nodes_of_few, nodes_of_few}
use Rattle.cap_live.proofs.live.LiveFarm.next_reserved.Goals as goal

pub loop-next-init : goal.loop-next-init
loop-next-init g c = no_turn (IsIdle (sight_of c.args.self.now.flat)) (sight_of c.args.self.now.flat).nodes c.args.first c.args.turn (let t = c.requires.turn in let e = c.requires.end in omega (arith, t, e))

pub wrapped-requires-clause-first : goal.wrapped-requires-clause-first
wrapped-requires-clause-first g c =
    let value = c.nodes-nodes.ensures.value ∙ ap (λ (s : ClusterState g.row.K). s.flat.nodes) c.self.view_is in
    let n = c.count-count.ensures.value ∙ ap (λ (t : NodeTable). length t.present) value in
    let m = count_is c.args.self.now.flat in
    let lt = c.requires.first in
    omega (arith, n, m, lt)

pub wrapped-requires-clause-turn : goal.wrapped-requires-clause-turn
wrapped-requires-clause-turn g c =
    let value = c.nodes-nodes.ensures.value ∙ ap (λ (s : ClusterState g.row.K). s.flat.nodes) c.self.view_is in
    let n = c.count-count.ensures.value ∙ ap (λ (t : NodeTable). length t.present) value in
    let m = count_is c.args.self.now.flat in
    let e = c.requires.end in
    let test = c.loop-next-test.true in
    omega (arith, n, m, e, test)

pub nth-load-requires : goal.nth-load-requires
nth-load-requires g c =
    let n = c.count-count.ensures.value in
    let w = c.wrapped.ensures.within in
    (nodes_of_few _ c.self.invariant, omega (arith, n, w))

pub loop-next-preserved : goal.loop-next-preserved
loop-next-preserved g c =
    let flat = c.args.self.now.flat in
    let value = c.nodes-nodes.ensures.value ∙ ap (λ (s : ClusterState g.row.K). s.flat.nodes) c.self.view_is in
    let count = c.count-count.ensures.value ∙ ap (λ (t : NodeTable). length t.present) value ∙ sym (count_is flat) in
    let x = c.nth-load.result.now in
    let at = load_at flat c.wrapped.result x c.nodes-nodes.result.now value c.nth-load.ensures.at c.nth-load.ensures.load in
    let test = c.loop-next-test.true in
    let e = c.requires.end in
    next_turn (IsIdle (sight_of c.args.self.now.flat)) (sight_of flat).nodes c.args.first c.args.turn c.loop-next.next c.wrapped.result c.count-count.result (load_sight x) (omega (arith, test, e, count)) count c.wrapped.ensures.ring at
    (inl (held_none c.nth-load.result.now.reservation (ap is_some (sym c.reservation.ensures) ∙ sym c.is_some.ensures ∙ c.if-is_some.false))) c.loop-next.invariant

pub returns : goal.returns
returns g c = until (IsIdle (sight_of c.args.self.now.flat)) (sight_of c.args.self.now.flat).nodes c.args.first c.args.turn c.loop-next.next c.args.end c.loop-next-test.false c.loop-next.auto.next-end c.requires.turn c.loop-next.invariant

pub nodes-nodes-requires : goal.nodes-nodes-requires
nodes-nodes-requires g c = (cluster_of_few _ c.self.invariant, nodes_of_few _ c.self.invariant)
