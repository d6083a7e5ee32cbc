use Rattle.cap_live.proofs.Sizes.{cluster_of_few, nodes_of_few}
use Rattle.cap_live.proofs.Prelude.{◌∙◌, ap, sym, holds_of, fits, ClusterNode, ClusterState, NodeSight}
use Rattle.cap_live.proofs.Nodes.{fit_is, load_at}
use Rattle.cap_live.proofs.live.LiveFarm.fits_total.Goals as goal

pub returns : goal.returns
returns g c =
    let s = c.args.self.now in
    let value = c.nodes.ensures.value ∙ ap (λ (s : ClusterState g.row.K). s.flat.nodes) c.self.view_is in
    let at = load_at s.flat c.args.index c.nth.result.now c.nodes.result.now value c.nth.ensures.at c.nth.ensures.load in
    fit_is c.fits.result c.args.resource.now c.total.result c.fits.ensures ∙ ap (fits c.args.resource.now) (c.total.ensures.value ∙ ap (λ (n : ClusterNode). n.total) c.node.ensures) ∙ sym (ap (holds_of (λ (n : NodeSight). fits c.args.resource.now n.total)) at)

pub nodes-requires : goal.nodes-requires
nodes-requires g c = (cluster_of_few _ c.self.invariant, nodes_of_few _ c.self.invariant)
