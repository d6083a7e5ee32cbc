use Rattle.cap_live.proofs.Prelude.{◌∙◌, ap, sym, arith, length, is_some, not, sight_of, ClusterState, NodeTable, load_sight, IsReserved}
use Rattle.cap_live.proofs.Nodes.{count_is, load_at, next_turn, no_turn, until}
use Rattle.cap_live.proofs.Sizes.{cluster_of_few, nodes_of_few, nodes_of_few}
use Rattle.cap_live.proofs.live.LiveFarm.next_unreserved.Goals as goal

pub loop-next-init : goal.loop-next-init
loop-next-init g c = no_turn IsReserved (sight_of c.args.self.now.flat).nodes c.args.first c.args.turn c.requires.turn

pub wrapped-requires-clause-first : goal.wrapped-requires-clause-first
wrapped-requires-clause-first g c =
    let value = c.nodes-nodes.ensures.value ∙ ap (λ (s : ClusterState g.row.K). s.flat.nodes) c.self.view_is in
    let n = c.count-count.ensures.value ∙ ap (λ (t : NodeTable). length t.present) value in
    let m = count_is c.args.self.now.flat in
    let lt = c.requires.first in
    omega (arith, n, m, lt)

pub nth-load-requires : goal.nth-load-requires
nth-load-requires g c =
    let n = c.count-count.ensures.value in
    let w = c.wrapped.ensures.within in
    (nodes_of_few _ c.self.invariant, omega (arith, n, w))

pub loop-next-preserved : goal.loop-next-preserved
loop-next-preserved g c =
    let flat = c.args.self.now.flat in
    let value = c.nodes-nodes.ensures.value ∙ ap (λ (s : ClusterState g.row.K). s.flat.nodes) c.self.view_is in
    let count = c.count-count.ensures.value ∙ ap (λ (t : NodeTable). length t.present) value ∙ sym (count_is flat) in
    let x = c.nth-load.result.now in
    let at = load_at flat c.wrapped.result x c.nodes-nodes.result.now value c.nth-load.ensures.at c.nth-load.ensures.load in
    let test = c.loop-next-test.true in
    next_turn IsReserved (sight_of flat).nodes c.args.first c.args.turn c.loop-next.next c.wrapped.result c.count-count.result (load_sight x) test count c.wrapped.ensures.ring at
    (ap is_some (sym c.reservation.ensures) ∙ c.is_none.ensures ∙ ap not c.if-is_none.false) c.loop-next.invariant

pub returns : goal.returns
returns g c =
    let value = c.nodes-nodes.ensures.value ∙ ap (λ (s : ClusterState g.row.K). s.flat.nodes) c.self.view_is in
    let n = c.count-count.ensures.value ∙ ap (λ (t : NodeTable). length t.present) value in
    let m = count_is c.args.self.now.flat in
    let t = c.requires.turn in
    until IsReserved (sight_of c.args.self.now.flat).nodes c.args.first c.args.turn c.loop-next.next c.count-count.result c.loop-next-test.false c.loop-next.auto.next-end (omega (arith, n, m, t)) c.loop-next.invariant

pub nodes-nodes-requires : goal.nodes-nodes-requires
nodes-nodes-requires g c = (cluster_of_few _ c.self.invariant, nodes_of_few _ c.self.invariant)
