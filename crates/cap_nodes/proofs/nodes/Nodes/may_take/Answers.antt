use Rattle.std.proofs.lemmas.List.Elements.{All-map}
use Rattle.cap_nodes.proofs.Sizes.{present_fits}
use Rattle.cap_nodes.proofs.Prelude.{◌≡◌, false, ClusterNode, Load, could_take}
use Rattle.cap_nodes.proofs.nodes.Nodes.may_take.Goals as goal

pub returns : goal.returns
returns g c = λ off.
    rw (← c.self.view_is) (All-map (λ (node : ClusterNode). could_take c.args.place.now c.args.resource.now node ≡ false) (λ (p : Load). p.node) c.self.inside.present.loads (c.may_take.ensures off))

pub may_take-requires : goal.may_take-requires
may_take-requires g c = search present_fits
