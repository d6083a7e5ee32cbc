use Rattle.cap_nodes.proofs.Sizes.{present_fits}
use Rattle.cap_nodes.proofs.Prelude.{length-map, ◌∙◌, sym}
use Rattle.cap_nodes.proofs.nodes.Nodes.count.Goals as goal

pub returns-clause-value : goal.returns-clause-value
returns-clause-value g c = rw (← c.self.view_is) (c.count.ensures.value ∙ sym (length-map c.self.inside.present.loads (λ p. p.node)))

pub count-requires : goal.count-requires
count-requires g c = search present_fits
