use Rattle.cap_live.proofs.Sizes.{cluster_of_few, nodes_of_few}
use Rattle.cap_live.proofs.Prelude.{◌∙◌, ap, ClusterState, sight_of}
use Rattle.cap_live.proofs.Nodes.{none_fits, unfit}
use Rattle.cap_live.proofs.live.LiveFarm.next_fit.Goals as goal

pub returns-then-not-may_take : goal.returns-then-not-may_take
returns-then-not-may_take g c =
    let flat = c.args.self.now.flat in
    let value = c.nodes-nodes.ensures.value ∙ ap (λ (s : ClusterState g.row.K). s.flat.nodes) c.self.view_is in
    none_fits flat c.args.ask.now c.nodes-nodes.result.now value (rw (← c.place.ensures, ← c.resource.ensures) (c.may_take.ensures c.if-not-may_take.true)) c.args.first c.args.turn c.count.result c.requires.turn c.count.ensures.value

pub returns : goal.returns
returns g c = unfit c.args.ask.now (sight_of c.args.self.now.flat).nodes c.args.first c.args.turn c.next_unreserved.result c.next_unreserved.ensures

pub nodes-nodes-requires : goal.nodes-nodes-requires
nodes-nodes-requires g c = (cluster_of_few _ c.self.invariant, nodes_of_few _ c.self.invariant)
