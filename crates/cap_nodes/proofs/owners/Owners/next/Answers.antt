use Rattle.cap_nodes.proofs.Pairs.{least, none_of, later}
use Rattle.cap_nodes.proofs.owners.Owners.next.Goals as goal

pub returns-then-first-owner-clause-least : goal.returns-then-first-owner-clause-least
returns-then-first-owner-clause-least c =
    rw (← c.self.view_is)
    (least c.self.inside.pairs.keys c.range-later.result c.next.new.self c.args.owner c.args.after c.in-Some.field-0.now.0 c.in-Some.field-0.now.1 c.in-Some.ensures.steps (c.range-later.ensures.in_range tt).2 c.if-first-owner.true)

pub returns-else-first-owner-clause-none : goal.returns-else-first-owner-clause-none
returns-else-first-owner-clause-none c =
    rw (← c.self.view_is)
    (none_of c.self.inside.pairs.keys c.range-later.result c.next.new.self c.args.owner c.args.after c.in-Some.field-0.now.0 c.in-Some.field-0.now.1 c.in-Some.ensures.steps (c.range-later.ensures.in_range tt).2
    c.if-first-owner.false (c.range-later.ensures.in_range tt).1)

pub returns-in_default-clause-none : goal.returns-in_default-clause-none
returns-in_default-clause-none c =
    rw (← c.self.view_is) (λ m h. (c.range-later.ensures.in_range tt).5 c.in_default.ensures.steps.0 (c.args.owner, m) (later c.args.owner c.args.after m h, tt))
