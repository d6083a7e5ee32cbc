use Rattle.cap_copy.proofs.Prelude.{◌∙◌, ◌∷◌, [], ◌<◌, ap, length, refl, subst, sym, bytes_eq, slice_get_read, holds_of, Seen}
use Rattle.std.specs.Prelude.{◌||◌}
use Rattle.cap_model.specs.Admission.{takes_place}
use Rattle.cap_base.specs.Texts.{star}
use Rattle.cap_copy.proofs.Fitting.{seen_node_of_few}
use Rattle.cap_copy.proofs.farm.SnapshotFarm.is_at.Goals as goal

pub index-node-requires : goal.index-node-requires
index-node-requires g c =
    let nodes = c.self.inside.nodes.items in
    let lt = subst (λ (s : Seen). c.args.index < length s.nodes) (sym c.self.view_is) c.requires in
    subst (λ n. c.args.index < n) (sym c.self.inside.nodes.ok.0) lt

pub host-requires : goal.host-requires
host-requires g c = seen_node_of_few _ c.self.invariant.resources

pub rack-requires : goal.rack-requires
rack-requires g c = seen_node_of_few _ c.self.invariant.resources

pub returns : goal.returns
returns g c =
    let nodes = c.self.inside.nodes.items in
    let lt = subst (λ (s : Seen). c.args.index < length s.nodes) (sym c.self.view_is) c.requires in
    let at = slice_get_read nodes (length nodes) c.args.index c.index-node.result.now refl lt c.index-node.ensures in
    rw (← c.self.view_is) (c.takes_place.ensures ∙ (λ k. bytes_eq c.args.place.now (star ∷ []) || bytes_eq c.args.place.now (c.host.ensures k) || bytes_eq c.args.place.now (c.rack.ensures k)) ∙ sym (ap (holds_of (takes_place c.args.place.now)) at))
