use Rattle.cap_copy.proofs.Prelude.{◌∙◌, ◌<◌, ap, arith, length, refl, subst, sym, slice_get_read, NodeSight, Seen}
use Rattle.std.specs.Prelude.{option_and_then}
use Rattle.cap_copy.proofs.farm.SnapshotFarm.reservation.Goals as goal

pub index-requires : goal.index-requires
index-requires g c =
    let nodes = c.self.inside.nodes.items in
    let lt = subst (λ (s : Seen). c.args.index < length s.nodes) (sym c.self.view_is) c.requires in
    subst (λ n. c.args.index < n) (sym c.self.inside.nodes.ok.0) lt

pub reservation-requires : goal.reservation-requires
reservation-requires g c = let few = c.self.invariant.resources in (omega (arith, few), omega (arith, few))

pub returns : goal.returns
returns g c =
    let nodes = c.self.inside.nodes.items in
    let lt = subst (λ (s : Seen). c.args.index < length s.nodes) (sym c.self.view_is) c.requires in
    let at = slice_get_read nodes (length nodes) c.args.index c.index.result.now refl lt c.index.ensures in
    rw (← c.self.view_is) (c.reservation.ensures ∙ sym (ap (option_and_then (λ (n : NodeSight). n.reservation)) at))
