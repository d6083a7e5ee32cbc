use Rattle.cap_commit.proofs.Prelude.{ask_room, ◌≡◌, ap, refl, subst, ◌∙◌, List, ℕ, ◌≤◌, sym, round_up, Ask, rounded_ask, ClusterState, Parts, flat_of, ask_put, App, KeepsApp}
use Rattle.cap_commit.proofs.Fitting.{apps_fit, ask_in_cluster, in_cluster}
use Rattle.cap_commit.proofs.Holding.{held_app, with_table}
use Rattle.cap_commit.proofs.Followed.{follows_now, held_now, may_now, settings_now, there_now}
use Rattle.cap_commit.proofs.Sizes.{tree_fits}
use Rattle.cap_asks.specs.Apps.{with_ask_put}
use Rattle.cap_commit.proofs.Reach.{ask_wanted}
use Rattle.cap_commit.proofs.RowsAt.{or_no}
use Rattle.cap_commit.proofs.cluster.Cluster.put_ask.Goals as goal

pub invariant_of-self : goal.invariant_of-self
invariant_of-self g c =
    let x = c.self-2.inside in
    let n = c.args.number in
    let f : App → App = with_ask_put c.with_resource-ask.result in
    let keeps : KeepsApp f = record { number = λ a. refl; leaf = λ a. refl; user = λ a. refl } in
    let now = c.put_ask.new.self in
    let none = rw c.deref_mut-tree.ensures.value at c.follow_app-is_left.ensures.none in
    let some = rw c.deref_mut-tree.ensures.value at c.follow_app-is_left.ensures.some in
    let reach =
    ask_wanted x.nodes.present c.with_resource-ask.result c.may_take-impossible.result x.apps.impossible now.impossible c.put_ask.ensures.impossible
    (λ off. rw (← c.place.ensures, ← c.resource-2.ensures) (c.may_take-impossible.ensures off)) c.self-2.invariant.impossible in
    record {
      consistent = held_now _ (held_app _ c.self-2.invariant.consistent n 1 now f keeps c.put_ask.ensures.table c.put_ask.ensures.accounts) n _ _ none some;
      waiting = follows_now _ c.self-2.invariant.consistent c.numbers_rise.ensures n f keeps now c.put_ask.ensures.table c.put_ask.ensures.accounts.positions x.tree.value c.self-2.invariant.waiting (λ path position at. at) c.follow_app-is_left.result _ _ none some reach (or_no x.asleep c.follow_app-is_left.result);
      impossible = reach;
    }

pub follow_app-is_left-requires : goal.follow_app-is_left-requires
follow_app-is_left-requires g c =
    let x = c.self-2.inside in
    let n = c.args.number in
    let p : Parts g.row.K = record { rows = x.tree.value; limits = x.limits; apps = x.apps; nodes = x.nodes } in
    let f : App → App = with_ask_put c.with_resource-ask.result in
    let keeps : KeepsApp f = record { number = λ a. refl; leaf = λ a. refl; user = λ a. refl } in
    let now = c.put_ask.new.self in (
      tree_fits _ c.self-2.invariant.consistent.resources,
      (
        search apps_fit,
        (
          c.self-2.invariant.consistent.resources,
          (
            rw c.deref_mut-tree.ensures.value (there_now p c.self-2.invariant.consistent c.numbers_rise.ensures n f keeps now c.put_ask.ensures.table c.put_ask.ensures.accounts.positions x.tree.value c.self-2.invariant.waiting (λ path position at. at)),
            rw c.deref_mut-tree.ensures.value
                (may_now p c.self-2.invariant.consistent c.numbers_rise.ensures n f keeps now c.put_ask.ensures.table c.put_ask.ensures.accounts.positions x.tree.value c.self-2.invariant.waiting (λ path position at. at) (flat_of p) c.self-2.invariant.consistent.tied (λ test. refl)),
          ),
        ),
      ),
    )

pub returns-clause-flat : goal.returns-clause-flat
returns-clause-flat g c =
    let x = c.self.inside in
    let y = c.self-2.inside in
    let n = c.args.number in
    let p : Parts g.row.K = record { rows = y.tree.value; limits = y.limits; apps = y.apps; nodes = y.nodes } in
    let ask : Ask = c.args.ask.now in
    let kept = c.with_resource-ask.ensures ∙ ap (λ (v : List ℕ). record ask { resource = v }) (c.round_up-resource.ensures ∙ ap (λ (v : List ℕ). round_up g.row.K v x.limits.minimum_allocation x.limits.maximum_allocation) c.resource.ensures) in
    let rounding = subst (λ (h : ClusterState g.row.K). c.with_resource-ask.result ≡ rounded_ask g.row.K h.flat.settings ask) c.self.view_is kept in
    let f : App → App = with_ask_put c.with_resource-ask.result in
    let keeps : KeepsApp f = record { number = λ a. refl; leaf = λ a. refl; user = λ a. refl } in
    let now = c.put_ask.new.self in
    let none = rw c.deref_mut-tree.ensures.value at c.follow_app-is_left.ensures.none in
    let some = rw c.deref_mut-tree.ensures.value at c.follow_app-is_left.ensures.some in
    let settings = settings_now _ (held_app _ c.self-2.invariant.consistent n 1 now f keeps c.put_ask.ensures.table c.put_ask.ensures.accounts) n _ _ none some in
    with_table p c.follow_app-is_left.new.tree now now.table settings refl
    ∙ ask_put c.args.self.now.flat (flat_of p) now.table n ask c.with_resource-ask.result rounding (ap (λ (h : ClusterState g.row.K). h.flat) c.self-2.view_is ∙ c.drop_unwanted.ensures.flat) c.put_ask.ensures.table

pub put_ask-requires : goal.put_ask-requires
put_ask-requires g c =
    let accounts = ap (λ (y : ClusterState g.row.K). y.accounts) c.self-2.view_is ∙ c.drop_unwanted.ensures.accounts in
    (search apps_fit, (search ask_in_cluster, subst (λ kept. 1 ≤ ask_room c.args.number kept) (sym accounts) c.requires))

pub drop_unwanted-requires : goal.drop_unwanted-requires
drop_unwanted-requires g c = search

pub resource-requires : goal.resource-requires
resource-requires g c = search in_cluster

pub with_resource-ask-requires : goal.with_resource-ask-requires
with_resource-ask-requires g c = search in_cluster

pub round_up-resource-requires : goal.round_up-resource-requires
round_up-resource-requires g c = search in_cluster
