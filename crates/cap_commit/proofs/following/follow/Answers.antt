use Rattle.cap_commit.proofs.Prelude.{◌≡◌, ℕ, Bool, true, false, not, List, refl, sym, Row, App, Want, IsIn}
use Rattle.cap_model.specs.Asks.{Ask}
use Rattle.cap_asks.specs.Apps.{is_waiting}
use Rattle.cap_asks.specs.Impossible.{want_of}
use Rattle.cap_commit.specs.Waiting.{IsFollowedAs, IsSettled}
use Rattle.cap_commit.proofs.following.follow.Goals as goal

on_and_off : (b : Bool) → b ≡ true → b ≡ false → ⊥
on_and_off b on off = cc (on, off)

-- one that waits is followed, but where all its asks are among those wants
waits_as : (app : App) (position : List ℕ) (wants : List Want) (left : Bool) (old new : List Row) → is_waiting app ≡ true → (left ≡ true → (ask : Ask) → IsIn ask app.asks → IsIn (want_of ask) wants) → IsSettled app.number position (not left) old new →
    IsFollowedAs app position wants left old new
waits_as app position wants true old new on all s = record { waits = false; settled = s; some = λ never. absurd (cc never); none = λ off on. all refl; all = λ never. absurd (cc never) }
waits_as app position wants false old new on all s = record { waits = true; settled = s; some = λ is. on; none = λ never. absurd (cc never); all = λ off on. refl }

-- one that does not wait is not followed
waits_not : (app : App) (position : List ℕ) (wants : List Want) (old new : List Row) → is_waiting app ≡ false → IsSettled app.number position false old new → IsFollowedAs app position wants false old new
waits_not app position wants old new off s = record {
  waits = false;
  settled = s;
  some = λ never. absurd (cc never);
  none = λ out on. absurd (on_and_off (is_waiting app) on off);
  all = λ out on. absurd (on_and_off (is_waiting app) on off);
}

pub returns-then-not-is_waiting : goal.returns-then-not-is_waiting
returns-then-not-is_waiting g c =
    waits_not c.args.app.now.app c.args.app.now.account.position c.args.app.now.impossible c.args.tree.now c.settle.new.tree (sym c.if-not-is_waiting.ensures)
    (rw (c.position.ensures, c.number.ensures) at c.settle.ensures)

pub returns : goal.returns
returns g c =
    waits_as c.args.app.now.app c.args.app.now.account.position c.args.app.now.impossible c.is_impossible-is_left.result c.args.tree.now c.settle-2.new.tree (sym c.if-not-is_waiting.ensures) c.is_impossible-is_left.ensures
    (rw (c.position-2.ensures, c.number-2.ensures) at c.settle-2.ensures)
