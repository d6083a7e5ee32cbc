use Rattle.cap_commit.proofs.Prelude.{ap, sym, ◌∙◌, map, arith, subst, IsSome, is_some, filter, ◌==◌, ◌≡◌, [], Released, Flat, Reservation, app_at, containers_of, remove_app, queues_of, left_row, path_at, ClusterState, Parts, zero_count, one_app, false, AreConsistent}
use Rattle.cap_commit.proofs.Holding.{finished_is, held_left, may_go, placed_at, position_is, with_table}
use Rattle.cap_commit.proofs.Dropping.{none_stay}
use Rattle.cap_commit.proofs.Moving.{moved_settings}
use Rattle.cap_commit.proofs.Owning.{still_active}
use Rattle.cap_commit.proofs.Sizes.{tree_fits}
use Rattle.cap_commit.proofs.Followed.{followed_path, followed_position, followed_settings, follows_left, follows_rows, follows_same_table, held_followed}
use Rattle.cap_commit.proofs.Waiting.{moved_keeps}
use Rattle.cap_commit.proofs.RowsAt.{still_at}
use Rattle.cap_commit.specs.Waiting.{followed_row}
use Rattle.cap_commit.specs.Owners.{TakesEndRoom}
use Rattle.cap_commit.proofs.Reach.{no_more_wanted}
use Rattle.cap_commit.proofs.cluster.Cluster.finish.Goals as goal

pub unreachable-requires : goal.unreachable-requires
unreachable-requires g c =
    let start = c.args.self.now.flat in
    let ended = subst (λ (x : Flat g.row.K). IsSome (app_at x c.args.number)) (sym c.end_all-ended.ensures.ended) (still_active Released (containers_of start.nodes c.args.number) start c.args.number c.requires) in
    let there = subst (λ (x : Flat g.row.K). IsSome (app_at x c.args.number)) (sym c.unreserve_app.ensures.flat) ended in
    let some = rw (← c.self.view_is) at there in
    let none = ap is_some c.in_default.ensures.found in
    cc (some, none)

pub settle-requires : goal.settle-requires
settle-requires g c =
    let x = c.self.inside in
    let app = c.in-Some.app.now.app in
    let there = sym c.in-Some.ensures.found in
    let first = c.position.ensures ∙ position_is _ c.self.invariant.consistent c.args.number c.in-Some.app.now c.in-Some.ensures.found c.in-Some.ensures.account in
    let placed = placed_at _ c.self.invariant.consistent c.args.number app there in (
      tree_fits _ c.self.invariant.consistent.resources,
      (
        c.self.invariant.consistent.resources,
        (rw (c.deref_mut-tree.ensures.value, first) placed.position.present, λ never. absurd (cc never)),
      ),
    )

pub leave-requires : goal.leave-requires
leave-requires g c =
    let x = c.self.inside in
    let p : Parts g.row.K = record { rows = x.tree.value; limits = x.limits; apps = x.apps; nodes = x.nodes } in
    let mine : Reservation → _ = λ r. r.app == c.args.number in
    let still : containers_of c.unreserve_app.new.self.flat.nodes c.args.number ≡ [] = subst (λ (x : Flat g.row.K). containers_of x.nodes c.args.number ≡ []) (sym c.unreserve_app.ensures.flat) c.end_all-ended.ensures.none in
    let none = rw (← c.self.view_is) at still in
    let gone : filter mine c.unreserve_app.new.self.flat.nodes.reserved ≡ [] = subst (λ (x : Flat g.row.K). filter mine x.nodes.reserved ≡ []) (sym c.unreserve_app.ensures.flat) (none_stay mine c.end_all-ended.new.self.flat.nodes.reserved) in
    let bare = rw (← c.self.view_is) at gone in
    let app = c.in-Some.app.now.app in
    let there = sym c.in-Some.ensures.found in
    let position = c.position-2.ensures ∙ position_is _ c.self.invariant.consistent c.args.number c.in-Some.app.now c.in-Some.ensures.found c.in-Some.ensures.account in
    let first = c.position.ensures ∙ position_is _ c.self.invariant.consistent c.args.number c.in-Some.app.now c.in-Some.ensures.found c.in-Some.ensures.account in
    let placed = placed_at _ c.self.invariant.consistent c.args.number app there in
    let settled = rw (c.deref_mut-tree.ensures.value, first) at c.settle.ensures in
    let follow = settled.rows ∙ ap (λ q. map (followed_row c.args.number q settled.waited false) x.tree.value) placed.position.path_is in
    let after : Parts g.row.K = record p { rows = map (followed_row c.args.number app.leaf settled.waited false) x.tree.value } in
    let held : AreConsistent after = held_followed p c.self.invariant.consistent c.args.number app.leaf settled.waited false in (
      tree_fits _ c.self.invariant.consistent.resources,
      (
        omega arith,
        rw (follow, c.user.ensures, position)
            (may_go after held c.args.number app c.numbers_rise.ensures there none bare),
      ),
    )

pub invariant_of-self : goal.invariant_of-self
invariant_of-self g c =
    let x = c.self.inside in
    let p : Parts g.row.K = record { rows = x.tree.value; limits = x.limits; apps = x.apps; nodes = x.nodes } in
    let mine : Reservation → _ = λ r. r.app == c.args.number in
    let still : containers_of c.unreserve_app.new.self.flat.nodes c.args.number ≡ [] = subst (λ (x : Flat g.row.K). containers_of x.nodes c.args.number ≡ []) (sym c.unreserve_app.ensures.flat) c.end_all-ended.ensures.none in
    let none = rw (← c.self.view_is) at still in
    let gone : filter mine c.unreserve_app.new.self.flat.nodes.reserved ≡ [] = subst (λ (x : Flat g.row.K). filter mine x.nodes.reserved ≡ []) (sym c.unreserve_app.ensures.flat) (none_stay mine c.end_all-ended.new.self.flat.nodes.reserved) in
    let bare = rw (← c.self.view_is) at gone in
    let app = c.in-Some.app.now.app in
    let there = sym c.in-Some.ensures.found in
    let position = c.position-2.ensures ∙ position_is _ c.self.invariant.consistent c.args.number c.in-Some.app.now c.in-Some.ensures.found c.in-Some.ensures.account in
    let first = c.position.ensures ∙ position_is _ c.self.invariant.consistent c.args.number c.in-Some.app.now c.in-Some.ensures.found c.in-Some.ensures.account in
    let placed = placed_at _ c.self.invariant.consistent c.args.number app there in
    let settled = rw (c.deref_mut-tree.ensures.value, first) at c.settle.ensures in
    let follow = settled.rows ∙ ap (λ q. map (followed_row c.args.number q settled.waited false) x.tree.value) placed.position.path_is in
    let after : Parts g.row.K = record p { rows = map (followed_row c.args.number app.leaf settled.waited false) x.tree.value } in
    let held : AreConsistent after = held_followed p c.self.invariant.consistent c.args.number app.leaf settled.waited false in
    let at = still_at (followed_row c.args.number app.leaf settled.waited false) (followed_position c.args.number app.leaf settled.waited false) (followed_path c.args.number app.leaf settled.waited false) x.tree.value app.leaf _ placed.position in
    let path = ap (λ q. path_at q after.rows) position ∙ at.path_is in
    let rows = (rw follow at c.leave.ensures) ∙ (λ i. map (left_row g.row.K (path i) (c.user.ensures i)) after.rows) in
    rw rows
    (record {
      consistent = held_left after held c.args.number app c.numbers_rise.ensures there none bare c.finish.new.self c.finish.ensures.table c.finish.ensures.accounts;
      waiting =
          follows_same_table (remove_app c.args.number x.apps.table) c.finish.new.self.table _ c.finish.ensures.table
          (follows_rows _ (moved_keeps g.row.K app.leaf app.user (one_app g.row.K) (zero_count g.row.K)) _ after.rows
          (follows_left x.apps.table c.args.number app c.numbers_rise.ensures there x.tree.value _ placed.position _ settled c.self.invariant.waiting));
      impossible = no_more_wanted x.nodes.present x.apps.impossible c.finish.new.self.impossible c.finish.ensures.impossible c.self.invariant.impossible;
    })

pub returns-clause-finished : goal.returns-clause-finished
returns-clause-finished g c =
    let x = c.self.inside in
    let p : Parts g.row.K = (record { rows = x.tree.value; limits = x.limits; apps = x.apps; nodes = x.nodes }) in
    let settled = rw c.deref_mut-tree.ensures.value at c.settle.ensures in
    let settings = ap queues_of c.leave.ensures ∙ moved_settings g.row.K _ c.user.result.now (one_app g.row.K) (zero_count g.row.K) c.settle.new.tree ∙ ap queues_of settled.rows ∙ followed_settings c.args.number _ settled.waited false x.tree.value in
    let ended = c.end_all-ended.new.self.flat in
    let dropped = ap (λ (h : ClusterState g.row.K). h.flat) c.self.view_is ∙ c.unreserve_app.ensures.flat in
    finished_is Released c.args.self.now.flat ended _ c.args.number c.end_all-ended.ensures.ended
    (with_table p c.leave.new.self c.finish.new.self _ settings c.finish.ensures.table ∙ ap (λ (f : Flat g.row.K). record f { apps = remove_app c.args.number f.apps }) dropped)

pub unreserve_app-requires : goal.unreserve_app-requires
unreserve_app-requires g c = search

pub end_all-ended-requires : goal.end_all-ended-requires
end_all-ended-requires g c = search

pub returns-clause-room : goal.returns-clause-room
returns-clause-room g c = record {
  between = c.self.inside.apps.accounts;
  ended = subst (TakesEndRoom c.args.self.now.accounts) (sym (ap (λ (h : ClusterState g.row.K). h.accounts) c.self.view_is ∙ c.unreserve_app.ensures.accounts)) c.end_all-ended.ensures.room;
  left = c.finish.ensures.accounts;
}
