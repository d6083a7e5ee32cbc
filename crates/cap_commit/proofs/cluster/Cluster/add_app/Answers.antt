use Rattle.cap_commit.proofs.Prelude.{ClusterState, flat_of, may_enter, ◌≡◌, ℕ, List, ap, ◌∙◌, map, arith, Some, option_map_or, Account, IsEntered, account_of, new_account, queues_of, entered_row, zero_count, one_app, add_app}
use Rattle.cap_commit.proofs.Fitting.{apps_fit}
use Rattle.cap_commit.proofs.Holding.{held_entered, held_same, with_table}
use Rattle.cap_commit.proofs.Moving.{moved_settings}
use Rattle.cap_commit.proofs.RowsAt.{all_few}
use Rattle.cap_commit.proofs.Sizes.{tree_fits}
use Rattle.cap_commit.proofs.Followed.{follows_entered, follows_rows, follows_same_table}
use Rattle.cap_commit.proofs.Waiting.{moved_keeps}
use Rattle.cap_commit.proofs.Reach.{no_more_wanted}
use Rattle.cap_commit.proofs.cluster.Cluster.add_app.Goals as goal

-- the application that entered knows its position
at_position : (n next : ℕ) (position items : List ℕ) (account : Account) (old new : List (ℕ × Account)) → n ≡ next → IsEntered next position old new → Some account ≡ account_of n new → items ≡ account.position → items ≡ position
at_position n next position items account old new e entered own is = is ∙ ap (λ o. option_map_or (λ (a : Account). a.position) o items) (own ∙ ap (λ k. account_of k new) e ∙ entered.own)

pub submit-requires : goal.submit-requires
submit-requires g c =
    (search apps_fit, (may_enter (flat_of (record { rows = c.self.inside.tree.value; limits = c.self.inside.limits; apps = c.self.inside.apps; nodes = c.self.inside.nodes })) c.args.path.now (rw (← c.self.view_is) at c.requires.free)).numbered)

pub unreachable-requires : goal.unreachable-requires
unreachable-requires g c = cc (c.in_default.ensures.account ∙ ap (λ k. account_of k c.submit.new.self.accounts) c.in_ok-number.ensures.number ∙ c.in_ok-number.ensures.accounts.own)

pub enter-requires : goal.enter-requires
enter-requires g c =
    let items = at_position _ _ c.args.position.items _ _ _ _ c.in_ok-number.ensures.number c.in_ok-number.ensures.accounts c.in-Some.ensures.account c.position.ensures in
    let tree = c.deref_mut-tree.ensures.value in
    let at = rw (← c.self.view_is) at c.requires.position in
    (tree_fits _ c.self.invariant.consistent.resources, (omega arith, (rw (tree, items) at.present, rw tree (omega (arith, all_few _ c.self.invariant.consistent)))))

pub invariant_of-self : goal.invariant_of-self
invariant_of-self g c = record {
  consistent = held_same _ c.self.invariant.consistent c.submit.new.self c.in_err-number.ensures.table_stays c.in_err-number.ensures.accounts_stay;
  waiting = follows_same_table c.self.inside.apps.table c.submit.new.self.table _ c.in_err-number.ensures.table_stays c.self.invariant.waiting;
  impossible = no_more_wanted c.self.inside.nodes.present c.self.inside.apps.impossible c.submit.new.self.impossible c.submit.ensures.impossible c.self.invariant.impossible;
}

pub invariant_of-self-in_default-enter : goal.invariant_of-self-in_default-enter
invariant_of-self-in_default-enter g c =
    let old = c.self.inside.apps in
    rw (rw c.deref_mut-tree.ensures.value at c.in_default-enter.ensures.err)
    (record {
      consistent =
          held_same _ c.self.invariant.consistent c.take_back.new.self (c.take_back.ensures.table c.args.path.now c.args.user.now old.table c.in_ok-number.ensures.table)
          (c.take_back.ensures.accounts old.table.next (new_account c.args.position.items) old.accounts c.in_ok-number.ensures.accounts.last);
      waiting = follows_same_table old.table c.take_back.new.self.table _ (c.take_back.ensures.table c.args.path.now c.args.user.now old.table c.in_ok-number.ensures.table) c.self.invariant.waiting;
      impossible =
          no_more_wanted c.self.inside.nodes.present c.submit.new.self.impossible c.take_back.new.self.impossible c.take_back.ensures.impossible
          (no_more_wanted c.self.inside.nodes.present old.impossible c.submit.new.self.impossible c.submit.ensures.impossible c.self.invariant.impossible);
    })

pub invariant_of-self-in-Ok : goal.invariant_of-self-in-Ok
invariant_of-self-in-Ok g c =
    let items = at_position _ _ c.args.position.items _ _ _ _ c.in_ok-number.ensures.number c.in_ok-number.ensures.accounts c.in-Some.ensures.account c.position.ensures in
    let at = rw (← c.self.view_is) at c.requires.position in
    rw ((rw (c.deref_mut-tree.ensures.value, items) at c.in-Ok.ensures.ok) ∙ ap (λ p. map (entered_row g.row.K p c.args.user.now) c.self.inside.tree.value) at.path_is)
    (record {
      consistent = held_entered _ c.self.invariant.consistent c.args.path.now c.args.user.now c.args.position.items c.submit.new.self c.numbers_rise.ensures (rw (← c.self.view_is) at c.requires.free) at c.in_ok-number.ensures.table c.in_ok-number.ensures.accounts;
      waiting =
          follows_same_table (add_app c.args.path.now c.args.user.now c.self.inside.apps.table) c.submit.new.self.table _ c.in_ok-number.ensures.table
          (follows_rows _ (moved_keeps g.row.K c.args.path.now c.args.user.now (zero_count g.row.K) (one_app g.row.K)) _ c.self.inside.tree.value
          (follows_entered c.self.inside.apps.table.active c.self.inside.tree.value c.self.inside.apps.table.next c.args.path.now c.args.user.now c.numbers_rise.ensures c.self.invariant.waiting));
      impossible = no_more_wanted c.self.inside.nodes.present c.self.inside.apps.impossible c.submit.new.self.impossible c.submit.ensures.impossible c.self.invariant.impossible;
    })

pub returns-clause-ok : goal.returns-clause-ok
returns-clause-ok g c =
    let x = c.self.inside in
    let items = at_position _ _ c.args.position.items _ _ _ _ c.in_ok-number.ensures.number c.in_ok-number.ensures.accounts c.in-Some.ensures.account c.position.ensures in
    let rows = (rw (c.deref_mut-tree.ensures.value, items) at c.in-Ok.ensures.ok) ∙ ap (λ p. map (entered_row g.row.K p c.args.user.now) x.tree.value) (rw (← c.self.view_is) at c.requires.position).path_is in
    rw (← c.self.view_is) (with_table (record { rows = x.tree.value; limits = x.limits; apps = x.apps; nodes = x.nodes }) c.enter.new.self c.submit.new.self _ (ap queues_of rows ∙ moved_settings g.row.K c.args.path.now c.args.user.now (zero_count g.row.K) (one_app g.row.K) x.tree.value) c.in_ok-number.ensures.table)

pub returns-clause-number : goal.returns-clause-number
returns-clause-number g c = c.in_ok-number.ensures.number ∙ ap (λ (y : ClusterState g.row.K). y.flat.apps.next) c.self.view_is
