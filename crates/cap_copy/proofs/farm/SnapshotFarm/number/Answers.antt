use Rattle.cap_copy.proofs.Prelude.{◌∙◌, ◌<◌, ap, length, refl, subst, sym, Some, option_map, slice_get_read, NodeSight, Seen}
use Rattle.cap_copy.proofs.Fitting.{seen_node_of_few}
use Rattle.cap_copy.proofs.farm.SnapshotFarm.number.Goals as goal

pub index-requires : goal.index-requires
index-requires g c =
    let nodes = c.self.inside.nodes.items in
    let lt = subst (λ (s : Seen). c.args.index < length s.nodes) (sym c.self.view_is) c.requires in
    subst (λ n. c.args.index < n) (sym c.self.inside.nodes.ok.0) lt

pub number-requires : goal.number-requires
number-requires g c = seen_node_of_few _ c.self.invariant.resources

pub returns : goal.returns
returns g c =
    let nodes = c.self.inside.nodes.items in
    let lt = subst (λ (s : Seen). c.args.index < length s.nodes) (sym c.self.view_is) c.requires in
    let at = slice_get_read nodes (length nodes) c.args.index c.index.result.now refl lt c.index.ensures in
    rw (← c.self.view_is) (ap (option_map (λ (n : NodeSight). n.number)) at ∙ ap (λ n. Some n) (sym c.number.ensures))
