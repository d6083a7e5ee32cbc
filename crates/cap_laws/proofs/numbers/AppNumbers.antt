-- Numbers of applications and of nodes: one that was used and is not there is never used again.
use Rattle.cap_laws.proofs.Prelude.{◌≡◌, ℕ, ◌<◌, List, None, IsSome, Flat, App, app_at, node_at, Event, Run, AppNumbersStayDistinct, NumbersAreNotUsedAgain, not_none, some_kept}
use Rattle.cap_laws.proofs.lists.Tables.{numbers_move, spent}
use Rattle.cap_laws.proofs.calls.Steps.{over_run}
use Rattle.cap_laws.proofs.calls.Moves.{AppsChange, step_moves, step_nodes}
use Rattle.cap_laws.proofs.calls.Lessening.{change_stands}

module _ {K : ℕ} where
  pub never_back : (events : List (Event K)) (old new : Flat K) (n : ℕ) → app_at old n ≡ None → n < old.apps.next → Run old events new → app_at new n ≡ None
  never_back events old new n e h run =
      (over_run (λ c. (app_at c n ≡ None) × (n < c.apps.next)) (λ old mid event s step. spent (step_moves old mid event step) n (s.0) (s.1)) events old new (e, h) run).0

  -- an application that is changed does not go
  pub kept_change : (old new : Flat K) → AppsChange old new → (n : ℕ) → IsSome (app_at old n) → app_at new n ≡ None → ⊥
  kept_change old new m n h e = not_none (app_at new n) e (some_kept (λ (a : App). (a.leaf, a.user)) (app_at new n) (app_at old n) (change_stands old new m n) h)

pub app_numbers_stay_distinct : AppNumbersStayDistinct
app_numbers_stay_distinct K old new event r step = numbers_move (step_moves old new event step) r

pub numbers_are_not_used_again : NumbersAreNotUsedAgain
numbers_are_not_used_again K events old new n w run = (
  (λ h e. never_back events old new n e h run),
  (λ h e. (over_run (λ c. (node_at c n ≡ None) × (n < c.nodes.next_node)) (λ old mid event s step. spent (step_nodes old mid event step) n (s.0) (s.1)) events old new (e, h) run).0),
)
