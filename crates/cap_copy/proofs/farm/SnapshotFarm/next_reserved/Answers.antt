use Rattle.cap_copy.proofs.Prelude.{◌≡◌, ◌∙◌, ap, arith, length, refl, subst, sym, Some, slice_get, slice_get_read, is_some, IsIdle, IsTurn, Seen, sight_in}
use Rattle.cap_copy.proofs.Farming.{no_turn, one_idle, stopped}
use Rattle.cap_copy.proofs.farm.SnapshotFarm.next_reserved.Goals as goal

pub loop-next-init : goal.loop-next-init
loop-next-init g c =
    let t = c.requires.turn in
    let e = c.requires.end in
    no_turn c.args.self.now.nodes c.args.first c.requires.first (IsIdle (sight_in g.row.K c.args.self.now)) c.args.turn (omega (arith, t, e))

pub loop-next-preserved : goal.loop-next-preserved
loop-next-preserved g c =
    let nodes = c.self.inside.nodes.items in
    let same : nodes ≡ c.args.self.now.nodes = ap (λ (s : Seen). s.nodes) c.self.view_is in
    let count : c.len-count.result ≡ length nodes = c.len-count.ensures ∙ c.self.inside.nodes.ok.0 in
    let here = c.wrapped.ensures.within in
    let x = c.index-node.result.now in
    let at = slice_get_read nodes (length nodes) c.wrapped.result x refl (omega (arith, here, count)) c.index-node.ensures in
    let test = c.loop-next-test.true in
    let end = c.requires.end in
    one_idle c.args.self.now.nodes c.args.first c.requires.first (sight_in g.row.K c.args.self.now) c.args.turn c.loop-next.next c.wrapped.result c.len-count.result x (omega (arith, test, end)) (count ∙ ap length same) c.wrapped.ensures.ring
    (subst (λ ns. slice_get ns c.wrapped.result ≡ Some x) same at) (ap is_some (sym c.reservation.ensures) ∙ sym c.is_some.ensures ∙ c.if-is_some.false) c.loop-next.invariant

pub returns : goal.returns
returns g c =
    subst (IsTurn (IsIdle (sight_in g.row.K c.args.self.now)) c.args.self.now.nodes c.args.first c.args.turn) (stopped c.loop-next.next c.args.end c.args.turn c.loop-next-test.false c.loop-next.auto.next-end c.requires.turn) c.loop-next.invariant
