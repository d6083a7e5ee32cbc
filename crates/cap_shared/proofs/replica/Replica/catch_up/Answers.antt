use Rattle.cap_shared.proofs.Prelude.{ap, sym, subst, Content}
use Rattle.cap_shared.specs.Following.{LeadsOn}
use Rattle.cap_shared.proofs.Following.{leads_from, is_followed, is_beginning}
use Rattle.cap_shared.proofs.replica.Replica.catch_up.Goals as goal

pub follow-made-requires : goal.follow-made-requires
follow-made-requires g c =
    leads_from g.J.Naming.opening c.self.inside.cluster.flat _ c.args.news c.self.invariant.run (subst (λ (v : Content). LeadsOn g.J.Naming.opening v.log c.args.news) (sym c.self.view_is) c.requires)

pub invariant_of-self : goal.invariant_of-self
invariant_of-self g c = is_followed c.self.inside.history.items _ c.args.news c.follow-made.result c.and-self-inside.ensures g.J.Naming.opening c.self.inside.cluster.flat _ c.self.inside.followed c.self.invariant c.follow-made.ensures.made c.follow-made.ensures.few

pub returns-then-made-count-clause-run : goal.returns-then-made-count-clause-run
returns-then-made-count-clause-run g c = (is_followed c.self.inside.history.items _ c.args.news c.follow-made.result c.and-self-inside.ensures g.J.Naming.opening c.self.inside.cluster.flat _ c.self.inside.followed c.self.invariant c.follow-made.ensures.made c.follow-made.ensures.few).run

pub returns-then-made-count-clause-err : goal.returns-then-made-count-clause-err
returns-then-made-count-clause-err g c = is_beginning c.self.inside.history.items _ c.args.news c.follow-made.result c.and-self-inside.ensures c.args.self.now.log (ap (λ (v : Content). v.log) c.self.view_is)

pub invariant_of-self-2 : goal.invariant_of-self-2
invariant_of-self-2 g c = is_followed c.self.inside.history.items _ c.args.news c.follow-made.result c.and-self-inside.ensures g.J.Naming.opening c.self.inside.cluster.flat _ c.self.inside.followed c.self.invariant c.follow-made.ensures.made c.follow-made.ensures.few

pub returns-clause-run : goal.returns-clause-run
returns-clause-run g c = (is_followed c.self.inside.history.items _ c.args.news c.follow-made.result c.and-self-inside.ensures g.J.Naming.opening c.self.inside.cluster.flat _ c.self.inside.followed c.self.invariant c.follow-made.ensures.made c.follow-made.ensures.few).run
