use Rattle.cap_nodes.proofs.Prelude.{◌∙◌, values_of, Container}
use Rattle.cap_nodes.proofs.ByNumber.{found}
use Rattle.cap_nodes.proofs.Owned.{first_of, none_of}
use Rattle.cap_nodes.proofs.containers.Containers.next_on_node.Goals as goal

pub returns-in_default : goal.returns-in_default
returns-in_default g c =
    rw (← c.self.view_is)
    (none_of (λ (x : Container). x.node) c.args.node c.args.after (values_of c.self.inside.containers.entries) c.self.inside.on_nodes c.self.inside.next c.self.invariant.2 c.self.invariant.0.rising c.in_default.ensures.none)

pub returns : goal.returns
returns g c =
    let first =
    first_of (λ (x : Container). x.node) c.args.node c.args.after (values_of c.self.inside.containers.entries) c.self.inside.on_nodes c.self.inside.next c.self.invariant.2 c.self.invariant.0.rising
    c.in-Some.number c.in-Some.ensures.has c.in-Some.ensures.above c.in-Some.ensures.least
    in
    rw (← c.self.view_is) (c.copied.ensures ∙ c.get.ensures.value ∙ found c.self.invariant.0 c.in-Some.number ∙ first)
