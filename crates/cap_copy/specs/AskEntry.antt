-- An ask as a snapshot keeps it.
use Rattle.std.specs.Prelude.{ℕ}
use Rattle.cap_model.specs.Asks.{Ask}

-- an ask of a registered application: the application's number and its index among those that have asks, the ask, and how many
-- containers it wants beyond those that room is reserved for
pub record AskEntry : Type 0 where
  pub app : ℕ
  pub index : ℕ
  pub ask : Ask
  pub wanted : ℕ
