use Rattle.cap_copy.proofs.Prelude.{◌≤◌, ◌<◌, length, subst, sym, AreSkips, Seen}
use Rattle.cap_copy.proofs.Farming.{past_is, unfit}
use Rattle.cap_copy.proofs.farm.SnapshotFarm.next_fit.Goals as goal

pub returns : goal.returns
returns g c =
    let nodes = c.self.inside.nodes.items in
    let h = subst (λ (s : Seen). c.args.first < length s.nodes) (sym c.self.view_is) c.requires.first in
    let t = subst (λ (s : Seen). c.args.turn ≤ length s.nodes) (sym c.self.view_is) c.requires.turn in
    let skips = subst (AreSkips nodes) (sym c.deref.ensures.value) c.self.invariant.skips_are in
    let next = past_is nodes c.args.first h c.deref.result.now skips c.args.turn c.past_reserved.result t c.past_reserved.ensures.later c.past_reserved.ensures.within c.past_reserved.ensures.few in
    rw (← c.self.view_is) (unfit nodes c.args.first h c.args._ask.now c.args.turn c.past_reserved.result next)
