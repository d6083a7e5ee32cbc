use Rattle.cap_commit.proofs.Prelude.{◌≡◌, ℕ, List, [], Some, refl, ap, subst, arith, option_map_or, Account, IsAt, IsIn, IsPosition, Parts, AreConsistent, account_of, position_of, flat_of}
use Rattle.cap_tree.specs.Waiting.{waiting_at}
use Rattle.cap_commit.proofs.Holding.{placed_at}
use Rattle.cap_commit.proofs.Sizes.{tree_fits}
use Rattle.cap_commit.proofs.Waiting.{may_begin}
use Rattle.cap_commit.proofs.Waking.{all_woken, none_woken, one_woken, waiter_found}
use Rattle.cap_commit.specs.Waiting.{MayBegin}
use Rattle.cap_commit.proofs.following.wake.Goals as goal

own_position : (n : ℕ) (accounts : List (ℕ × Account)) (account : Account) → account_of n accounts ≡ Some account → position_of n accounts ≡ account.position
own_position n accounts account is = ap (λ o. option_map_or (λ (a : Account). a.position) o []) is

pub loop-index-init : goal.loop-index-init
loop-index-init g c = none_woken g.row.K c.args.apps.now c.args.tree.now c.requires.waiting

pub follow-is_left-requires : goal.follow-is_left-requires
follow-is_left-requires g c =
    let apps = c.args.apps.now in
    let a = c.nth_waiting.result.now.app in
    let cluster = c.requires.cluster in
    let p : Parts g.row.K = record { rows = c.loop-index.tree; limits = cluster.limits; apps = apps; nodes = cluster.nodes } in
    let h : AreConsistent p = c.loop-index.invariant.consistent cluster.limits cluster.nodes cluster.consistent in
    let found = waiter_found g.row.K apps c.numbers_rise.ensures c.loop-index.index a c.nth_waiting.ensures.app in
    let at = (placed_at p h a.number a found).position in
    let position = own_position a.number apps.accounts c.nth_waiting.result.now.account c.nth_waiting.ensures.account in (
      tree_fits _ c.requires.resources,
      (
        omega arith,
        (
          c.requires.resources,
          (
            subst (IsPosition c.loop-index.tree) position at.present,
            subst (λ q. ¬ IsIn a.number (waiting_at q c.loop-index.tree) → MayBegin a.number q c.loop-index.tree) position
                (may_begin c.loop-index.invariant.followed apps.table.active apps.table.next a.number a c.numbers_rise.ensures found c.loop-index.tree c.loop-index.invariant.waiting (position_of a.number apps.accounts) at (flat_of p) h.tied (λ test. refl) h.few),
          ),
        ),
      ),
    )

pub loop-index-preserved : goal.loop-index-preserved
loop-index-preserved g c =
    let apps = c.args.apps.now in
    let held = c.nth_waiting.result.now in
    let a = held.app in
    let cluster = c.requires.cluster in
    let p : Parts g.row.K = record { rows = c.loop-index.tree; limits = cluster.limits; apps = apps; nodes = cluster.nodes } in
    let h : AreConsistent p = c.loop-index.invariant.consistent cluster.limits cluster.nodes cluster.consistent in
    let found = waiter_found g.row.K apps c.numbers_rise.ensures c.loop-index.index a c.nth_waiting.ensures.app in
    let position = own_position a.number apps.accounts held.account c.nth_waiting.ensures.account in
    let at = subst (IsAt c.loop-index.tree a.leaf) position (placed_at p h a.number a found).position in
    one_woken g.row.K apps c.numbers_rise.ensures c.args.tree.now c.loop-index.tree c.loop-index.index c.loop-index.asleep c.loop-index.invariant a c.nth_waiting.ensures.app held.account.position at held.impossible c.nth_waiting.ensures.impossible
    c.follow-is_left.result c.follow-is_left.new.tree c.follow-is_left.ensures

pub returns : goal.returns
returns g c =
    let test = c.loop-index-test.false in
    let count = c.waiting_count-index-end.ensures in
    all_woken g.row.K c.args.apps.now c.loop-index.asleep c.args.tree.now c.loop-index.tree c.loop-index.index (omega (arith, test, count)) c.loop-index.invariant
