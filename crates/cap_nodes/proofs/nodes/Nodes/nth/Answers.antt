use Rattle.cap_nodes.proofs.Prelude.{NodeTable, length-map, slice_get-map, ◌∙◌, ap, length, arith, subst, IfSome, option_map, Load, IsLoadIn}
use Rattle.cap_nodes.proofs.Sizes.{present_fits, load_fits}
use Rattle.cap_nodes.proofs.Changes.{node_of_load}
use Rattle.cap_nodes.proofs.Holding.{load_in}
use Rattle.cap_nodes.proofs.nodes.Nodes.nth.Goals as goal

pub returns-clause-at : goal.returns-clause-at
returns-clause-at g c =
    rw (← c.self.view_is) (slice_get-map (λ (p : Load). p.node) c.self.inside.present.loads c.args.index ∙ ap (option_map (λ (p : Load). p.node)) c.nth.ensures.at)

pub returns-clause-found : goal.returns-clause-found
returns-clause-found g c = rw (← c.self.view_is) (node_of_load c.self.inside.present.loads c.nth.result.now.node.number c.nth.result.now c.nth.ensures.own)

pub returns-clause-load : goal.returns-clause-load
returns-clause-load g c =
    let x = c.self.inside in
    subst (λ o. IfSome o (IsLoadIn g.row.K c.args.self.now)) c.nth.ensures.own
    (rw (← c.self.view_is) (load_in g.row.K x.present.loads x.live.containers x.reserved.containers x.present.next x.total c.self.invariant x.live.next c.nth.result.now.node.number))

pub nth-requires : goal.nth-requires
nth-requires g c =
    let count = ap (λ (t : NodeTable). length t.present) c.self.view_is in
    let nodes = length-map c.self.inside.present.loads (λ p. p.node) in
    (search present_fits, (search load_fits, omega (arith, count, nodes, c.requires)))
