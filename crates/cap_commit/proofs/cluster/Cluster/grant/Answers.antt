use Rattle.cap_commit.proofs.Fitting.{in_cluster, node_in_cluster, nodes_in_cluster, apps_fit}
use Rattle.cap_commit.proofs.Prelude.{◌≤◌, sym, ap, subst, ◌∙◌, arith, length, map, None, [], ◌∷◌, ◌++◌, ◌≡◌, ◌==◌, find, filter, not, option_map, unwrap_or, count_by-le-length, AreApart, Flat, App, ClusterNode, Container, NodeTable, Reservation, change_app, sight_of, reason_of, after_grant, take_one, use_alone, applied_row, path_at, UsesRoom, ClusterState, flat_of, taken_back, IsSound, List, Row, AppTable, KeepsApp, only_app, count_of, count_changed, position_of, if◌then◌else◌, Parts, refl, Test, ℕ}
use Rattle.cap_commit.proofs.Granting.{its_app, its_node, its_room, few_live_yet, numbers_are_left}
use Rattle.cap_commit.proofs.Granted.{found_again, granted_is, held_granted, kind_is, may_take_back, nodes_with, room_stays, root_stays, app_again, granted_table}
use Rattle.cap_commit.proofs.Holding.{placed_at, position_is}
use Rattle.cap_commit.proofs.Moving.{moved_settings, moved_stays}
use Rattle.cap_commit.proofs.Sizes.{tree_fits}
use Rattle.cap_commit.proofs.Followed.{follows_now, follows_rows, held_now, may_now, settings_now, there_now}
use Rattle.cap_commit.proofs.RowsAt.{or_no}
use Rattle.cap_commit.proofs.Waiting.{moved_keeps}
use Rattle.cap_commit.proofs.Reach.{no_more_wanted}
use Rattle.cap_commit.proofs.cluster.Cluster.grant.Goals as goal

pub returns-clause-proposed : goal.returns-clause-proposed
returns-clause-proposed g c = λ i. record { kind = kind_is c.args.proposal.now.kind c.requires.kind i; app = c.app-app.ensures i; key = c.key-key.ensures i; node = c.node-node.ensures i; resource = c.resource-resource.ensures.value i }

pub room_for_grant-requires : goal.room_for_grant-requires
room_for_grant-requires g c = ((search), rw c.app-app.ensures (its_app c.args.self.now.flat c.args.proposal.now c.requires.passes))

pub place-requires : goal.place-requires
place-requires g c =
    let q = c.args.proposal.now in
    let x = c.self.inside in
    let same = ap (λ (y : ClusterState g.row.K). y.flat) c.self.view_is ∙ c.room_for_grant.ensures.flat in
    let passes = subst (λ (f : Flat g.row.K). reason_of (sight_of f) q ≡ None) (sym same) c.requires.passes in
    let kinds = c.self.invariant.consistent.resources in (
      search nodes_in_cluster,
      (
        omega (arith, kinds),
        (
          rw c.node-node.ensures (its_node _ c.self.invariant.consistent q passes c.requires.kind),
          (
            rw (c.node-node.ensures, c.resource-resource.ensures.value) (its_room _ c.self.invariant.consistent q passes c.requires.kind),
            (numbers_are_left _ c.self.invariant.consistent q passes c.requires.kind, few_live_yet _ c.self.invariant.consistent q passes c.requires.kind),
          ),
        ),
      ),
    )

pub unreachable-requires : goal.unreachable-requires
unreachable-requires g c =
    let q = c.args.proposal.now in
    let x = c.self.inside in
    let same = ap (λ (y : ClusterState g.row.K). y.flat) c.self.view_is ∙ c.room_for_grant.ensures.flat in
    let passes = subst (λ (f : Flat g.row.K). reason_of (sight_of f) q ≡ None) (sym same) c.requires.passes in
    let present = ap (λ (t : NodeTable). t.present) c.unreserve.ensures ∙ ap (λ (t : NodeTable). t.present) c.in-Ok-place.ensures.ok.1 in
    found_again c.unreserve.new.self.present x.nodes.present c.node-node.result q.node present c.node-node.ensures c.in_default.ensures.found (its_node _ c.self.invariant.consistent q passes c.requires.kind)

pub apply-requires : goal.apply-requires
apply-requires g c =
    let q = c.args.proposal.now in
    let x = c.self.inside in
    let same = ap (λ (y : ClusterState g.row.K). y.flat) c.self.view_is ∙ c.room_for_grant.ensures.flat in
    let passes = subst (λ (f : Flat g.row.K). reason_of (sight_of f) q ≡ None) (sym same) c.requires.passes in
    let room_back = c.requires.old ∙ ap (λ (f : Flat g.row.K). taken_back (sight_of f) q) (sym same) in
    let back = c.copied-old.ensures.value ∙ room_back in
    let few : length c.args.old.now ≤ g.row.K = omega (arith, c.copied-old.ensures.vector.count) in
    let short = subst (λ n. n ≤ g.row.K) (ap length room_back) few in
    let count = c.resource-resource.ensures.vector.count in
    let found = c.in-Some-app.ensures.found in
    let a = c.in-Some-app.owner.now.app in
    let owner = ap (λ n. find (λ (y : App). y.number == n) x.apps.table.active) (sym c.app-app.ensures) ∙ sym found in
    let position = c.position.ensures ∙ position_is _ c.self.invariant.consistent c.app-app.result c.in-Some-app.owner.now found c.in-Some-app.ensures.account in
    let nodes = c.unreserve.ensures ∙ ap (λ (t : NodeTable). record t { reserved = filter (λ (r : Reservation). not (r.node == c.node-node.result)) t.reserved }) c.in-Ok-place.ensures.ok.1
    ∙ (λ i. nodes_with x.nodes (c.app-app.ensures i) (c.key-key.ensures i) (c.node-node.ensures i) (c.resource-resource.ensures.value i)) in
    let placed = c.place.ensures.sound in
    let sound : IsSound g.row.K c.unreserve.new.self = rw c.unreserve.ensures (record { rising = placed.rising; held = placed.held; homes = placed.homes; totals = placed.totals }) in
    let kinds = c.self.invariant.consistent.resources in (
      tree_fits _ c.self.invariant.consistent.resources,
      (
        omega arith,
        (
          omega (arith, kinds),
          (
            rw (c.deref_mut-tree.ensures.value, c.user.ensures, position, back) (may_take_back _ c.self.invariant.consistent q passes c.requires.kind a owner short count),
            rw (c.deref_mut-tree.ensures.value, back, c.resource-resource.ensures.value) (root_stays _ c.self.invariant.consistent q passes c.requires.kind a owner short count (subst (IsSound g.row.K) nodes sound)),
          ),
        ),
      ),
    )

pub add_grant-requires : goal.add_grant-requires
add_grant-requires g c =
    let q = c.args.proposal.now in
    let x = c.self.inside in
    let same = ap (λ (y : ClusterState g.row.K). y.flat) c.self.view_is ∙ c.room_for_grant.ensures.flat in
    let passes = subst (λ (f : Flat g.row.K). reason_of (sight_of f) q ≡ None) (sym same) c.requires.passes in
    let kinds = c.self.invariant.consistent.resources in
    let room = rw (← c.self.view_is) at c.in-Ok.ensures.ok in
    let stays = room_stays c.app-app.result x.apps.accounts c.take_one.new.self.accounts c.take_one.ensures.accounts room in
    let live = Rattle.cap_commit.proofs.Owning.live_kept c.app-app.result 0 x.apps.accounts c.take_one.new.self.accounts c.take_one.ensures.accounts c.app-app.result in
    let counted = c.self.invariant.consistent.counted c.app-app.result in
    let below = count_by-le-length (λ (d : Container). d.app == c.app-app.result) x.nodes.live in
    let few = few_live_yet _ c.self.invariant.consistent q passes c.requires.kind in
    (omega arith, (omega (arith, kinds), (stays, omega (arith, live, counted, below, few))))

pub invariant_of-self-2 : goal.invariant_of-self-2
invariant_of-self-2 g c =
    let q = c.args.proposal.now in
    let x = c.self.inside in
    let same = ap (λ (y : ClusterState g.row.K). y.flat) c.self.view_is ∙ c.room_for_grant.ensures.flat in
    let passes = subst (λ (f : Flat g.row.K). reason_of (sight_of f) q ≡ None) (sym same) c.requires.passes in
    let room_back = c.requires.old ∙ ap (λ (f : Flat g.row.K). taken_back (sight_of f) q) (sym same) in
    let back = c.copied-old.ensures.value ∙ room_back in
    let few : length c.args.old.now ≤ g.row.K = omega (arith, c.copied-old.ensures.vector.count) in
    let short = subst (λ n. n ≤ g.row.K) (ap length room_back) few in
    let count = c.resource-resource.ensures.vector.count in
    let found = c.in-Some-app.ensures.found in
    let a = c.in-Some-app.owner.now.app in
    let owner = ap (λ n. find (λ (y : App). y.number == n) x.apps.table.active) (sym c.app-app.ensures) ∙ sym found in
    let position = c.position.ensures ∙ position_is _ c.self.invariant.consistent c.app-app.result c.in-Some-app.owner.now found c.in-Some-app.ensures.account in
    let nodes = c.unreserve.ensures ∙ ap (λ (t : NodeTable). record t { reserved = filter (λ (r : Reservation). not (r.node == c.node-node.result)) t.reserved }) c.in-Ok-place.ensures.ok.1
    ∙ (λ i. nodes_with x.nodes (c.app-app.ensures i) (c.key-key.ensures i) (c.node-node.ensures i) (c.resource-resource.ensures.value i)) in
    let path = ap (λ n. path_at n x.tree.value) position ∙ (placed_at _ c.self.invariant.consistent q.app a owner).position.path_is in
    let rows = (rw c.deref_mut-tree.ensures.value at c.apply.ensures) ∙ (λ i. map (applied_row g.row.K (path i) (c.user.ensures i) (back i) (c.resource-resource.ensures.value i)) x.tree.value) in
    let take = c.take_one.ensures.table ∙ (λ i. change_app (c.app-app.ensures i) (λ (app : App). record app { asks = take_one (c.key-key.ensures i) app.asks }) x.apps.table) in
    let add = c.add_grant.ensures.table ∙ ap (λ n. change_app n (λ (app : App). record app { grants = app.grants ++ c.new-grant.result ∷ [] }) c.take_one.new.self.table) c.app-app.ensures in
    let same_room = subst (λ n. UsesRoom n 0 0 0 x.apps.accounts c.take_one.new.self.accounts) c.app-app.ensures c.take_one.ensures.accounts in
    let room = subst (λ n. UsesRoom n 0 1 0 c.take_one.new.self.accounts c.add_grant.new.self.accounts) c.app-app.ensures c.add_grant.ensures.accounts in
    let p : Parts g.row.K = record { rows = x.tree.value; limits = x.limits; apps = x.apps; nodes = x.nodes } in
    let held = held_granted p c.self.invariant.consistent q passes c.requires.kind a owner short count c.take_one.new.self c.add_grant.new.self c.new-grant.result take add same_room room in
    let applied : List Row = map (applied_row g.row.K a.leaf a.user (taken_back (sight_of (flat_of p)) q) q.resource) x.tree.value in
    let f : App → App = λ app. record app { asks = take_one q.key app.asks; grants = app.grants ++ c.new-grant.result ∷ [] } in
    let keeps : KeepsApp f = record { number = λ y. refl; leaf = λ y. refl; user = λ y. refl } in
    let table : c.add_grant.new.self.table ≡ change_app q.app f x.apps.table = granted_table p q c.take_one.new.self c.add_grant.new.self c.new-grant.result take add in
    let positions : (m : ℕ) → position_of m c.add_grant.new.self.accounts ≡ position_of m x.apps.accounts = λ m. room.positions m ∙ same_room.positions m in
    let waited = follows_rows _ (moved_keeps g.row.K a.leaf a.user (use_alone (taken_back (sight_of (flat_of p)) q)) (use_alone q.resource)) x.apps.table.active x.tree.value c.self.invariant.waiting in
    let stays = moved_stays g.row.K a.leaf a.user (use_alone (taken_back (sight_of (flat_of p)) q)) (use_alone q.resource) x.tree.value in
    let tree = rw rows at c.deref_mut-tree-2.ensures.value in
    let none = rw (tree, c.app-app.ensures) at c.follow_app-is_left.ensures.none in
    let some = rw (tree, c.app-app.ensures) at c.follow_app-is_left.ensures.some in
    let reach =
    no_more_wanted x.nodes.present c.take_one.new.self.impossible c.add_grant.new.self.impossible c.add_grant.ensures.impossible
    (no_more_wanted x.nodes.present x.apps.impossible c.take_one.new.self.impossible c.take_one.ensures.impossible c.self.invariant.impossible) in
    rw nodes
    (record {
      consistent = held_now _ held q.app _ _ none some;
      waiting = follows_now p c.self.invariant.consistent c.numbers_rise.ensures q.app f keeps c.add_grant.new.self table positions applied waited stays c.follow_app-is_left.result _ _ none some reach (or_no x.asleep c.follow_app-is_left.result);
      impossible = reach;
    })

pub follow_app-is_left-requires : goal.follow_app-is_left-requires
follow_app-is_left-requires g c =
    let q = c.args.proposal.now in
    let x = c.self.inside in
    let same = ap (λ (y : ClusterState g.row.K). y.flat) c.self.view_is ∙ c.room_for_grant.ensures.flat in
    let passes = subst (λ (f : Flat g.row.K). reason_of (sight_of f) q ≡ None) (sym same) c.requires.passes in
    let room_back = c.requires.old ∙ ap (λ (f : Flat g.row.K). taken_back (sight_of f) q) (sym same) in
    let back = c.copied-old.ensures.value ∙ room_back in
    let few : length c.args.old.now ≤ g.row.K = omega (arith, c.copied-old.ensures.vector.count) in
    let short = subst (λ n. n ≤ g.row.K) (ap length room_back) few in
    let count = c.resource-resource.ensures.vector.count in
    let found = c.in-Some-app.ensures.found in
    let a = c.in-Some-app.owner.now.app in
    let owner = ap (λ n. find (λ (y : App). y.number == n) x.apps.table.active) (sym c.app-app.ensures) ∙ sym found in
    let position = c.position.ensures ∙ position_is _ c.self.invariant.consistent c.app-app.result c.in-Some-app.owner.now found c.in-Some-app.ensures.account in
    let nodes = c.unreserve.ensures ∙ ap (λ (t : NodeTable). record t { reserved = filter (λ (r : Reservation). not (r.node == c.node-node.result)) t.reserved }) c.in-Ok-place.ensures.ok.1
    ∙ (λ i. nodes_with x.nodes (c.app-app.ensures i) (c.key-key.ensures i) (c.node-node.ensures i) (c.resource-resource.ensures.value i)) in
    let path = ap (λ n. path_at n x.tree.value) position ∙ (placed_at _ c.self.invariant.consistent q.app a owner).position.path_is in
    let rows = (rw c.deref_mut-tree.ensures.value at c.apply.ensures) ∙ (λ i. map (applied_row g.row.K (path i) (c.user.ensures i) (back i) (c.resource-resource.ensures.value i)) x.tree.value) in
    let take = c.take_one.ensures.table ∙ (λ i. change_app (c.app-app.ensures i) (λ (app : App). record app { asks = take_one (c.key-key.ensures i) app.asks }) x.apps.table) in
    let add = c.add_grant.ensures.table ∙ ap (λ n. change_app n (λ (app : App). record app { grants = app.grants ++ c.new-grant.result ∷ [] }) c.take_one.new.self.table) c.app-app.ensures in
    let same_room = subst (λ n. UsesRoom n 0 0 0 x.apps.accounts c.take_one.new.self.accounts) c.app-app.ensures c.take_one.ensures.accounts in
    let room = subst (λ n. UsesRoom n 0 1 0 c.take_one.new.self.accounts c.add_grant.new.self.accounts) c.app-app.ensures c.add_grant.ensures.accounts in
    let p : Parts g.row.K = record { rows = x.tree.value; limits = x.limits; apps = x.apps; nodes = x.nodes } in
    let held = held_granted p c.self.invariant.consistent q passes c.requires.kind a owner short count c.take_one.new.self c.add_grant.new.self c.new-grant.result take add same_room room in
    let applied : List Row = map (applied_row g.row.K a.leaf a.user (taken_back (sight_of (flat_of p)) q) q.resource) x.tree.value in
    let f : App → App = λ app. record app { asks = take_one q.key app.asks; grants = app.grants ++ c.new-grant.result ∷ [] } in
    let keeps : KeepsApp f = record { number = λ y. refl; leaf = λ y. refl; user = λ y. refl } in
    let table : c.add_grant.new.self.table ≡ change_app q.app f x.apps.table = granted_table p q c.take_one.new.self c.add_grant.new.self c.new-grant.result take add in
    let positions : (m : ℕ) → position_of m c.add_grant.new.self.accounts ≡ position_of m x.apps.accounts = λ m. room.positions m ∙ same_room.positions m in
    let waited = follows_rows _ (moved_keeps g.row.K a.leaf a.user (use_alone (taken_back (sight_of (flat_of p)) q)) (use_alone q.resource)) x.apps.table.active x.tree.value c.self.invariant.waiting in
    let stays = moved_stays g.row.K a.leaf a.user (use_alone (taken_back (sight_of (flat_of p)) q)) (use_alone q.resource) x.tree.value in
    let tree = rw rows at c.deref_mut-tree-2.ensures.value in
    let same_counts : (test : Test) → count_of test c.add_grant.new.self.table.active ≡ count_of test x.apps.table.active = λ test. ap (λ (t : AppTable). count_of test t.active) table ∙ count_changed (λ y. if y.number == q.app then f y else y) (only_app q.app f keeps) test x.apps.table.active in (
      tree_fits _ c.self.invariant.consistent.resources,
      (
        search apps_fit,
        (
          c.self.invariant.consistent.resources,
          (
            rw (c.app-app.ensures, tree) (there_now p c.self.invariant.consistent c.numbers_rise.ensures q.app f keeps c.add_grant.new.self table positions applied waited stays),
            rw (c.app-app.ensures, tree)
                (may_now p c.self.invariant.consistent c.numbers_rise.ensures q.app f keeps c.add_grant.new.self table positions applied waited stays _ held.tied same_counts),
          ),
        ),
      ),
    )

pub returns-clause-ok : goal.returns-clause-ok
returns-clause-ok g c =
    let q = c.args.proposal.now in
    let x = c.self.inside in
    let same = ap (λ (y : ClusterState g.row.K). y.flat) c.self.view_is ∙ c.room_for_grant.ensures.flat in
    let passes = subst (λ (f : Flat g.row.K). reason_of (sight_of f) q ≡ None) (sym same) c.requires.passes in
    let room_back = c.requires.old ∙ ap (λ (f : Flat g.row.K). taken_back (sight_of f) q) (sym same) in
    let back = c.copied-old.ensures.value ∙ room_back in
    let few : length c.args.old.now ≤ g.row.K = omega (arith, c.copied-old.ensures.vector.count) in
    let short = subst (λ n. n ≤ g.row.K) (ap length room_back) few in
    let count = c.resource-resource.ensures.vector.count in
    let found = c.in-Some-app.ensures.found in
    let a = c.in-Some-app.owner.now.app in
    let owner = ap (λ n. find (λ (y : App). y.number == n) x.apps.table.active) (sym c.app-app.ensures) ∙ sym found in
    let position = c.position.ensures ∙ position_is _ c.self.invariant.consistent c.app-app.result c.in-Some-app.owner.now found c.in-Some-app.ensures.account in
    let nodes = c.unreserve.ensures ∙ ap (λ (t : NodeTable). record t { reserved = filter (λ (r : Reservation). not (r.node == c.node-node.result)) t.reserved }) c.in-Ok-place.ensures.ok.1
    ∙ (λ i. nodes_with x.nodes (c.app-app.ensures i) (c.key-key.ensures i) (c.node-node.ensures i) (c.resource-resource.ensures.value i)) in
    let take = c.take_one.ensures.table ∙ (λ i. change_app (c.app-app.ensures i) (λ (app : App). record app { asks = take_one (c.key-key.ensures i) app.asks }) x.apps.table) in
    let add = c.add_grant.ensures.table ∙ ap (λ n. change_app n (λ (app : App). record app { grants = app.grants ++ c.new-grant.result ∷ [] }) c.take_one.new.self.table) c.app-app.ensures in
    let same_room = subst (λ n. UsesRoom n 0 0 0 x.apps.accounts c.take_one.new.self.accounts) c.app-app.ensures c.take_one.ensures.accounts in
    let room = subst (λ n. UsesRoom n 0 1 0 c.take_one.new.self.accounts c.add_grant.new.self.accounts) c.app-app.ensures c.add_grant.ensures.accounts in
    let path = ap (λ n. path_at n x.tree.value) position ∙ (placed_at _ c.self.invariant.consistent q.app a owner).position.path_is in
    let rows = (rw c.deref_mut-tree.ensures.value at c.apply.ensures) ∙ (λ i. map (applied_row g.row.K (path i) (c.user.ensures i) (back i) (c.resource-resource.ensures.value i)) x.tree.value) in
    let p : Parts g.row.K = record { rows = x.tree.value; limits = x.limits; apps = x.apps; nodes = x.nodes } in
    let tree = rw rows at c.deref_mut-tree-2.ensures.value in
    let none = rw (tree, c.app-app.ensures) at c.follow_app-is_left.ensures.none in
    let some = rw (tree, c.app-app.ensures) at c.follow_app-is_left.ensures.some in
    let held = held_granted p c.self.invariant.consistent q passes c.requires.kind a owner short count c.take_one.new.self c.add_grant.new.self c.new-grant.result take add same_room room in
    let settings = settings_now _ held q.app _ _ none some ∙ moved_settings g.row.K a.leaf a.user (use_alone (taken_back (sight_of (flat_of p)) q)) (use_alone q.resource) x.tree.value in
    let present = ap (λ (t : NodeTable). t.present) c.unreserve.ensures ∙ ap (λ (t : NodeTable). t.present) c.in-Ok-place.ensures.ok.1 in
    let home = c.in-Some.ensures.found ∙ (λ i. find (λ (n : ClusterNode). n.number == c.node-node.ensures i) (present i)) in
    let host = c.host.ensures ∙ ap (λ o. unwrap_or (option_map (λ (n : ClusterNode). n.host) o) []) home in
    let told = c.new-grant.ensures ∙ (λ i. record { container = c.in-Ok-place.ensures.ok.0 i; key = c.key-key.ensures i; node = c.node-node.ensures i; host = host i; resource = c.resource-resource.ensures.value i }) in
    let is = granted_is _ c.self.invariant.consistent q passes c.requires.kind a owner short count c.take_one.new.self c.add_grant.new.self c.new-grant.result take add same_room room c.follow_app-is_left.new.tree settings told in
    rw nodes (is ∙ (λ i. after_grant (same i) (record { number = sym c.in-Ok-place.ensures.ok.0 i; app = sym c.app-app.ensures i; key = sym c.key-key.ensures i; node = sym c.node-node.ensures i; resource = sym c.resource-resource.ensures.value i })))

pub returns-clause-number : goal.returns-clause-number
returns-clause-number g c =
    c.in-Ok-place.ensures.ok.0 ∙ ap (λ (y : ClusterState g.row.K). y.flat.nodes.next_container) c.self.view_is ∙ ap (λ (f : Flat g.row.K). f.nodes.next_container) c.room_for_grant.ensures.flat

pub unreachable-requires-in_default-app : goal.unreachable-requires-in_default-app
unreachable-requires-in_default-app g c =
    let q = c.args.proposal.now in
    let x = c.self.inside in
    let same = ap (λ (y : ClusterState g.row.K). y.flat) c.self.view_is ∙ c.room_for_grant.ensures.flat in
    let passes = subst (λ (f : Flat g.row.K). reason_of (sight_of f) q ≡ None) (sym same) c.requires.passes in
    let there = its_app (flat_of (record { rows = x.tree.value; limits = x.limits; apps = x.apps; nodes = x.nodes })) q passes in
    app_again x.apps.table.active c.app-app.result q.app c.app-app.ensures c.in_default-app.ensures.found there

pub unreserve-requires : goal.unreserve-requires
unreserve-requires g c = (search nodes_in_cluster, subst AreApart (sym (ap (λ (t : NodeTable). t.reserved) c.in-Ok-place.ensures.ok.1)) c.self.invariant.consistent.reservations.apart)

pub returns-in-Err-clause-err : goal.returns-in-Err-clause-err
returns-in-Err-clause-err g c = c.room_for_grant.ensures.flat

pub node-requires : goal.node-requires
node-requires g c = search (nodes_in_cluster, node_in_cluster)

pub resource-resource-requires : goal.resource-resource-requires
resource-resource-requires g c = search in_cluster

pub new-grant-requires : goal.new-grant-requires
new-grant-requires g c = search in_cluster

pub host-requires : goal.host-requires
host-requires g c = search in_cluster

pub copied-old-requires : goal.copied-old-requires
copied-old-requires g c = search in_cluster
