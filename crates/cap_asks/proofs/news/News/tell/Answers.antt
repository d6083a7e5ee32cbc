use Rattle.cap_asks.proofs.Prelude.{◌∙◌, ◌+◌, ap, arith, drop, take, news_max, HeldNews}
use Rattle.cap_asks.proofs.Telling.{told_next}
use Rattle.cap_asks.proofs.news.News.tell.Goals as goal

pub invariant_of-self : goal.invariant_of-self
invariant_of-self g c =
    let next = told_next c.min-self-inside.result c.forget-self-inside.result (c.self.inside.forgotten + c.self.inside.told) news_max c.self.inside.items.items c.forget-self-inside.new.items.items c.forget-self-inside.ensures.within c.forget-self-inside.ensures.rest (omega (arith, c.min-self-inside.ensures)) in
    (next.within, next.few)

pub returns-clause-told : goal.returns-clause-told
returns-clause-told g c =
    let next = told_next c.min-self-inside.result c.forget-self-inside.result (c.self.inside.forgotten + c.self.inside.told) news_max c.self.inside.items.items c.forget-self-inside.new.items.items c.forget-self-inside.ensures.within c.forget-self-inside.ensures.rest (omega (arith, c.min-self-inside.ensures)) in
    next.told ∙ ap (λ (n : HeldNews g.row.T.Denot). take news_max n.waiting) c.self.view_is

pub returns-clause-waiting : goal.returns-clause-waiting
returns-clause-waiting g c =
    let next = told_next c.min-self-inside.result c.forget-self-inside.result (c.self.inside.forgotten + c.self.inside.told) news_max c.self.inside.items.items c.forget-self-inside.new.items.items c.forget-self-inside.ensures.within c.forget-self-inside.ensures.rest (omega (arith, c.min-self-inside.ensures)) in
    next.waiting ∙ ap (λ (n : HeldNews g.row.T.Denot). drop news_max n.waiting) c.self.view_is
