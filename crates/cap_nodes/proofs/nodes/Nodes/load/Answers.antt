use Rattle.cap_nodes.proofs.Sizes.{present_fits}
use Rattle.cap_nodes.proofs.Prelude.{◌∙◌, ap, sym, option_map, ◌==◌, ClusterNode, find_mapped_at, Load}
use Rattle.cap_nodes.proofs.Holding.{load_in}
use Rattle.cap_nodes.proofs.nodes.Nodes.load.Goals as goal

pub returns-clause-node : goal.returns-clause-node
returns-clause-node g c =
    rw (← c.self.view_is)
    (ap (option_map (λ (p : Load). p.node)) c.get.ensures ∙ sym (find_mapped_at (λ (p : Load). p.node) (λ (x : ClusterNode). x.number == c.args.number) c.self.inside.present.loads))

pub returns-clause-load : goal.returns-clause-load
returns-clause-load g c =
    let x = c.self.inside in
    rw (← c.self.view_is, c.get.ensures) (load_in g.row.K x.present.loads x.live.containers x.reserved.containers x.present.next x.total c.self.invariant x.live.next c.args.number)

pub get-requires : goal.get-requires
get-requires g c = search present_fits
