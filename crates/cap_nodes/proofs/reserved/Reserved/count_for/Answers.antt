use Rattle.cap_nodes.proofs.Prelude.{◌∙◌, ap, arith, is_kept_for, length-kept, count_in, same_app_key}
use Rattle.cap_nodes.proofs.AppKeys.{count_kept}
use Rattle.cap_nodes.proofs.reserved.Reserved.count_for.Goals as goal

pub returns-then-count-eq0 : goal.returns-then-count-eq0
returns-then-count-eq0 g c =
    let none = c.if-count-eq0.true in
    let count = c.count.ensures.value in
    let few = length-kept (is_kept_for c.args.app c.args.key.now) c.self.inside.made.containers in
    rw (← c.self.view_is) (omega (arith, none, count, few))

pub returns : goal.returns
returns g c =
    rw (← c.self.view_is) (c.get.ensures ∙ ap (count_in same_app_key c.self.inside.counts) c.new.ensures ∙ count_kept c.self.inside.counts c.self.inside.made.containers c.args.app c.args.key.now c.self.invariant)
