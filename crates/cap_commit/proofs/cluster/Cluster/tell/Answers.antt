use Rattle.cap_commit.proofs.Prelude.{refl, App, after_telling, told_is, unknown_is}
use Rattle.cap_commit.proofs.Holding.{held_app}
use Rattle.cap_commit.proofs.Followed.{follows_table}
use Rattle.cap_commit.proofs.Reach.{no_more_wanted}
use Rattle.cap_commit.proofs.cluster.Cluster.tell.Goals as goal

pub invariant_of-self : goal.invariant_of-self
invariant_of-self g c = record {
  consistent = held_app _ c.self.invariant.consistent c.args.number 0 c.tell.new.self (λ (app : App). after_telling app.response c.args.ignored app) (record { number = λ a. refl; leaf = λ a. refl; user = λ a. refl }) c.tell.ensures.table c.tell.ensures.accounts;
  waiting = follows_table c.args.number (λ (app : App). after_telling app.response c.args.ignored app) (record { number = λ a. refl; leaf = λ a. refl; user = λ a. refl }) (λ a. refl) (λ a. refl) c.self.inside.apps.table c.tell.new.self.table _ c.tell.ensures.table c.self.invariant.waiting;
  impossible = no_more_wanted c.self.inside.nodes.present c.self.inside.apps.impossible c.tell.new.self.impossible c.tell.ensures.impossible c.self.invariant.impossible;
}

pub returns-clause-told : goal.returns-clause-told
returns-clause-told g c = rw (← c.self.view_is) (told_is _ _ c.args.number c.args.ignored c.numbers_rise.ensures c.tell.ensures.table)

pub returns-clause-unknown : goal.returns-clause-unknown
returns-clause-unknown g c = rw (← c.self.view_is) (λ none. unknown_is _ _ c.args.number c.args.ignored c.tell.ensures.table none)
