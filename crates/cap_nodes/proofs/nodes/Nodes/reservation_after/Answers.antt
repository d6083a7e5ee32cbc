use Rattle.cap_nodes.proofs.Prelude.{◌∙◌, sym, Some, None, ap, find, nat_lt, ◌&&◌, Container, is_for, is_kept_for}
use Rattle.cap_nodes.proofs.Dropping.{next_kept, none_next}
use Rattle.cap_nodes.proofs.nodes.Nodes.reservation_after.Goals as goal

pub returns-in_default : goal.returns-in_default
returns-in_default g c =
    let reserved = c.self.inside.reserved in
    rw (← c.self.view_is) (none_next c.args.node reserved.containers reserved.next (rw c.made-reserved.ensures at c.numbers_rise.ensures) (is_for c.args.app c.args.key.now) (sym c.in_default.is ∙ (rw c.made-reserved.ensures at c.next_on_node.ensures)))

pub returns-in_default-next_for : goal.returns-in_default-next_for
returns-in_default-next_for g c =
    let reserved = c.self.inside.reserved in
    let is = sym c.in_default-next_for.is ∙ (rw c.made-reserved.ensures at c.next_for.ensures) ∙ ap (λ n. find (λ (d : Container). is_kept_for c.args.app c.args.key.now d && nat_lt n d.number) reserved.containers) c.number.ensures in
    rw (← c.self.view_is) (next_kept c.args.node reserved.containers reserved.next (rw c.made-reserved.ensures at c.numbers_rise.ensures) (is_for c.args.app c.args.key.now) c.in-Some.earlier (sym (rw c.made-reserved.ensures at c.next_on_node.ensures) ∙ c.in-Some.is) None is)

pub returns : goal.returns
returns g c =
    let reserved = c.self.inside.reserved in
    let is = sym c.in-Some-next_for.is ∙ (rw c.made-reserved.ensures at c.next_for.ensures) ∙ ap (λ n. find (λ (d : Container). is_kept_for c.args.app c.args.key.now d && nat_lt n d.number) reserved.containers) c.number.ensures in
    rw (← c.self.view_is, c.reservation_of.ensures)
    (next_kept c.args.node reserved.containers reserved.next (rw c.made-reserved.ensures at c.numbers_rise.ensures) (is_for c.args.app c.args.key.now) c.in-Some.earlier (sym (rw c.made-reserved.ensures at c.next_on_node.ensures) ∙ c.in-Some.is) (Some c.in-Some-next_for.container) is)
