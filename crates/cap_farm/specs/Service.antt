-- The order in which the applications of a sight are served.
use Rattle.std.specs.Prelude.{◌≡◌, ◌⊎◌, ℕ, ◌≤◌, false, List, Option, Some, None, drop, length, map}
use Rattle.std.specs.Ordering.{nat_cmp, then_cmp, on, is_gt}
use Rattle.std.specs.declared.cmp.Ordering.{Ordering}
use Rattle.std.specs.declared.cmp.Ordering.TheVariants.{Less}
use Rattle.std.specs.Cmp.Lexicographic.{slice_cmp}
use Rattle.cap_base.specs.Levels.{Level, level_cmp}
use Rattle.cap_model.specs.Choice.{level_of}
use Rattle.cap_model.specs.Sight.{AppSight, Sight, queues_to}
use Rattle.cap_farm.specs.Offers.{IsSeenApp}
use Rattle.cap_farm.specs.Rooms.{IsShut}

module _ {K : ℕ} where
  -- what decides between queues on the way from below the root to a leaf
  abbrev pub levels_to : Sight K → List ℕ → List Level
  levels_to sight leaf = map level_of (drop 1 (queues_to sight leaf))

  -- which of two applications is served first: by the queues of their leaves, then the earlier application
  abbrev pub app_cmp : Sight K → AppSight → AppSight → Ordering
  app_cmp sight = then_cmp (on (λ app. levels_to sight app.leaf) (slice_cmp level_cmp)) (on (λ app. app.number) nat_cmp)

  -- a registered application that has asks
  pub record IsWaiter (sight : Sight K) (app : AppSight) : Type 0 where
    pub found : IsSeenApp sight app
    pub some : 1 ≤ length app.asks

  -- it is served after that one, if one is named
  abbrev pub IsLater : Sight K → Option AppSight → AppSight → Type 0
  IsLater sight None app = Unit {0}
  IsLater sight (Some last) app = app_cmp sight last app ≡ Less

  -- it is served next after that one, first where none is named: all others that come after that one are served later, or are shut
  pub record IsNextApp (sight : Sight K) (after : Option AppSight) (app : AppSight) : Type 0 where
    pub waits : IsWaiter sight app
    pub later : IsLater sight after app
    pub first : (other : AppSight) → IsWaiter sight other → IsLater sight after other → (is_gt (app_cmp sight app other) ≡ false) ⊎ IsShut sight other

  -- none is: all that come after that one are shut
  abbrev pub HasNoNextApp : Sight K → Option AppSight → Type 0
  HasNoNextApp sight after = (other : AppSight) → IsWaiter sight other → IsLater sight after other → IsShut sight other
