use Rattle.cap_copy.proofs.Prelude.{◌∙◌, ◌<◌, ap, arith, length, refl, subst, sym, slice_get_read, holds_of, NodeSight, Seen}
use Rattle.cap_base.specs.Amounts.{fits}
use Rattle.cap_copy.proofs.Farming.{fits_is}
use Rattle.cap_copy.proofs.farm.SnapshotFarm.fits_total.Goals as goal

pub index-requires : goal.index-requires
index-requires g c =
    let nodes = c.self.inside.nodes.items in
    let lt = subst (λ (s : Seen). c.args.index < length s.nodes) (sym c.self.view_is) c.requires in
    subst (λ n. c.args.index < n) (sym c.self.inside.nodes.ok.0) lt

pub total-requires : goal.total-requires
total-requires g c = let few = c.self.invariant.resources in (omega (arith, few), omega (arith, few))

pub fits-requires : goal.fits-requires
fits-requires g c = let few = c.self.invariant.resources in (omega (arith, few), omega (arith, few))

pub returns : goal.returns
returns g c =
    let nodes = c.self.inside.nodes.items in
    let lt = subst (λ (s : Seen). c.args.index < length s.nodes) (sym c.self.view_is) c.requires in
    let at = slice_get_read nodes (length nodes) c.args.index c.index.result.now refl lt c.index.ensures in
    rw (← c.self.view_is) (fits_is c.fits.result c.args.resource.now c.total.result.now c.args.resource.now c.index.result.now.total c.fits.ensures refl c.total.ensures ∙ sym (ap (holds_of (λ (n : NodeSight). fits c.args.resource.now n.total)) at))
