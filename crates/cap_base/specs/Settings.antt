-- The settings of a cluster: its queues and its limits.
use Rattle.std.specs.Prelude.{ℕ, Bool, List, Option, []}

-- A queue: its dotted path, its capacity, the maximum up to which it may grow (its own or inherited, or none), its
-- user limit factor, and its own state
pub record QueueRow : Type 0 where
  pub path : List ℕ
  pub guaranteed : List ℕ
  pub maximum : Option (List ℕ)
  pub factor : ℕ
  pub running : Bool

-- the queues, each before those under it; the bounds of one container; how many applications may be active
pub record Settings : Type 0 where
  pub queues : List QueueRow
  pub minimum_allocation : List ℕ
  pub maximum_allocation : List ℕ
  pub application_limit : ℕ

-- the settings of nothing
abbrev pub no_settings : Settings
no_settings = record { queues = []; minimum_allocation = []; maximum_allocation = []; application_limit = 0 }
