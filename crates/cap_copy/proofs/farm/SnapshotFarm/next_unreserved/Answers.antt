use Rattle.cap_copy.proofs.Prelude.{◌≤◌, ◌<◌, length, subst, sym, AreSkips, IsReserved, Seen}
use Rattle.cap_copy.proofs.Farming.{joined, past_is}
use Rattle.cap_copy.proofs.farm.SnapshotFarm.next_unreserved.Goals as goal

pub returns : goal.returns
returns g c =
    let nodes = c.self.inside.nodes.items in
    let h = subst (λ (s : Seen). c.args.first < length s.nodes) (sym c.self.view_is) c.requires.first in
    let t = subst (λ (s : Seen). c.args.turn ≤ length s.nodes) (sym c.self.view_is) c.requires.turn in
    let skips = subst (AreSkips nodes) (sym c.deref.ensures.value) c.self.invariant.skips_are in
    let more = subst (AreSkips nodes) (sym c.deref-2.ensures.value) c.self.invariant.skips_are in
    let next = past_is nodes c.args.first h c.deref.result.now skips c.args.turn c.past_reserved-next.result t c.past_reserved-next.ensures.later c.past_reserved-next.ensures.within c.past_reserved-next.ensures.few in
    let last = past_is nodes c.args.first h c.deref-2.result.now more c.past_reserved-next.result c.past_reserved.result next.within c.past_reserved.ensures.later c.past_reserved.ensures.within c.past_reserved.ensures.few in
    rw (← c.self.view_is) (joined nodes c.args.first h IsReserved c.args.turn c.past_reserved-next.result c.past_reserved.result next last)
