use Rattle.cap_commit.proofs.Prelude.{true, refl, App, KeepsApp, Parts, flat_of}
use Rattle.cap_commit.proofs.Holding.{held_app, with_table}
use Rattle.cap_commit.proofs.Followed.{follows_now, held_now, may_now, settings_now, there_now}
use Rattle.cap_commit.proofs.Fitting.{apps_fit}
use Rattle.cap_commit.proofs.Sizes.{tree_fits}
use Rattle.cap_commit.proofs.Reach.{no_more_wanted}
use Rattle.cap_commit.proofs.RowsAt.{or_no}
use Rattle.cap_commit.proofs.cluster.Cluster.register.Goals as goal

pub invariant_of-self : goal.invariant_of-self
invariant_of-self g c =
    let x = c.self.inside in
    let n = c.args.number in
    let f : App → App = λ app. record app { registered = true } in
    let keeps : KeepsApp f = record { number = λ a. refl; leaf = λ a. refl; user = λ a. refl } in
    let now = c.register.new.self in
    let none = rw c.deref_mut-tree.ensures.value at c.follow_app-is_left.ensures.none in
    let some = rw c.deref_mut-tree.ensures.value at c.follow_app-is_left.ensures.some in
    let reach = no_more_wanted x.nodes.present x.apps.impossible now.impossible c.register.ensures.impossible c.self.invariant.impossible in
    record {
      consistent = held_now _ (held_app _ c.self.invariant.consistent n 0 now f keeps c.register.ensures.table c.register.ensures.accounts) n _ _ none some;
      waiting = follows_now _ c.self.invariant.consistent c.numbers_rise.ensures n f keeps now c.register.ensures.table c.register.ensures.accounts.positions x.tree.value c.self.invariant.waiting (λ path position at. at) c.follow_app-is_left.result _ _ none some reach (or_no x.asleep c.follow_app-is_left.result);
      impossible = reach;
    }

pub follow_app-is_left-requires : goal.follow_app-is_left-requires
follow_app-is_left-requires g c =
    let x = c.self.inside in
    let n = c.args.number in
    let p : Parts g.row.K = record { rows = x.tree.value; limits = x.limits; apps = x.apps; nodes = x.nodes } in
    let f : App → App = λ app. record app { registered = true } in
    let keeps : KeepsApp f = record { number = λ a. refl; leaf = λ a. refl; user = λ a. refl } in
    let now = c.register.new.self in (
      tree_fits _ c.self.invariant.consistent.resources,
      (
        search apps_fit,
        (
          c.self.invariant.consistent.resources,
          (
            rw c.deref_mut-tree.ensures.value (there_now p c.self.invariant.consistent c.numbers_rise.ensures n f keeps now c.register.ensures.table c.register.ensures.accounts.positions x.tree.value c.self.invariant.waiting (λ path position at. at)),
            rw c.deref_mut-tree.ensures.value
                (may_now p c.self.invariant.consistent c.numbers_rise.ensures n f keeps now c.register.ensures.table c.register.ensures.accounts.positions x.tree.value c.self.invariant.waiting (λ path position at. at) (flat_of p) c.self.invariant.consistent.tied (λ test. refl)),
          ),
        ),
      ),
    )

pub returns-clause-flat : goal.returns-clause-flat
returns-clause-flat g c =
    let x = c.self.inside in
    let n = c.args.number in
    let p : Parts g.row.K = record { rows = x.tree.value; limits = x.limits; apps = x.apps; nodes = x.nodes } in
    let f : App → App = λ app. record app { registered = true } in
    let keeps : KeepsApp f = record { number = λ a. refl; leaf = λ a. refl; user = λ a. refl } in
    let now = c.register.new.self in
    let none = rw c.deref_mut-tree.ensures.value at c.follow_app-is_left.ensures.none in
    let some = rw c.deref_mut-tree.ensures.value at c.follow_app-is_left.ensures.some in
    let settings = settings_now _ (held_app _ c.self.invariant.consistent n 0 now f keeps c.register.ensures.table c.register.ensures.accounts) n _ _ none some in
    rw (← c.self.view_is) (with_table p c.follow_app-is_left.new.tree now _ settings c.register.ensures.table)
