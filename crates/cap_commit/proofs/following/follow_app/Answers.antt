use Rattle.cap_commit.proofs.Prelude.{◌≡◌, ℕ, Bool, List, [], Some, IfSome, IsSome, refl, sym, ap, subst, arith, nat_tests, ◌==◌, found, option_map_or, Row, App, AppTable, Account, Want, IsIn, IsPosition, AreAmong, app_in, account_of, position_of}
use Rattle.cap_tree.specs.Waiting.{waiting_at}
use Rattle.cap_commit.proofs.Sizes.{tree_fits}
use Rattle.cap_commit.specs.Waiting.{IsFollowedAs, MayBegin}
use Rattle.cap_commit.proofs.following.follow_app.Goals as goal

own_number : (n : ℕ) (table : AppTable) (app : App) → Some app ≡ app_in table n → n ≡ app.number
own_number n table app is = let t = (found (λ (x : App). x.number == n) table.active app (sym is)).1 in grind (arith, nat_tests, t)

own_position : (n : ℕ) (accounts : List (ℕ × Account)) (account : Account) → Some account ≡ account_of n accounts → position_of n accounts ≡ account.position
own_position n accounts account is = sym (ap (λ o. option_map_or (λ (a : Account). a.position) o []) is)

-- where its position is another name of the same, and its wants are among others
followed_among : (app : App) (position position' : List ℕ) (wants wants' : List Want) (left : Bool) (old new : List Row) → position' ≡ position → AreAmong wants wants' → IsFollowedAs app position wants left old new → IsFollowedAs app position' wants' left old new
followed_among app position position' wants wants' left old new e among s =
    subst (λ q. IsFollowedAs app q wants' left old new) (sym e) (record { waits = s.waits; settled = s.settled; some = s.some; none = λ off on ask m. among _ (s.none off on ask m); all = s.all })

pub follow-requires : goal.follow-requires
follow-requires g c =
    let n = c.args.number in
    let table = c.args.apps.now.table in
    let accounts = c.args.apps.now.accounts in
    let held = c.in-Some.app.now in
    let some : IsSome (app_in table n) = subst IsSome c.in-Some.ensures.found refl in
    let position = own_position n accounts held.account c.in-Some.ensures.account in
    let number = own_number n table held.app c.in-Some.ensures.found in (
      tree_fits _ c.requires.resources,
      (
        omega arith,
        (
          c.requires.resources,
          (
            subst (IsPosition c.args.tree.now) position (c.requires.position some),
            subst (λ m. ¬ IsIn m (waiting_at held.account.position c.args.tree.now) → MayBegin m held.account.position c.args.tree.now) number
                (subst (λ q. ¬ IsIn n (waiting_at q c.args.tree.now) → MayBegin n q c.args.tree.now) position (c.requires.begins some)),
          ),
        ),
      ),
    )

pub returns-in-Some-clause-some : goal.returns-in-Some-clause-some
returns-in-Some-clause-some g c =
    let n = c.args.number in
    let apps = c.args.apps.now in
    let held = c.in-Some.app.now in
    subst (λ o. IfSome o (λ app. IsFollowedAs app (position_of n apps.accounts) apps.impossible c.follow.result c.args.tree.now c.follow.new.tree)) c.in-Some.ensures.found
    (followed_among held.app held.account.position (position_of n apps.accounts) held.impossible apps.impossible c.follow.result c.args.tree.now c.follow.new.tree (own_position n apps.accounts held.account c.in-Some.ensures.account) c.in-Some.ensures.impossible c.follow.ensures)
