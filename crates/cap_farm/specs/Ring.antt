-- The nodes of a sight as a ring.
use Rattle.std.specs.Prelude.{◌≡◌, ℕ, ◌+◌, ◌-◌, ◌<◌, ◌≤◌, nat_lt, List, Option, Some, IsSome, length, if◌then◌else◌}
use Rattle.std.specs.List.{slice_get}
use Rattle.cap_model.specs.Sight.{NodeSight}

-- the index of the node that is so many after the first in a ring
abbrev pub ring_index : ℕ → ℕ → ℕ → ℕ
ring_index first turn count = if nat_lt turn (count - first) then first + turn else turn - (count - first)

-- the node that comes after so many in the ring from the node at an index on
abbrev pub node_after : List NodeSight → ℕ → ℕ → Option NodeSight
node_after nodes first turn = slice_get nodes (ring_index first turn (length nodes))

-- of each node of the ring from a turn on, before another, this holds
abbrev pub HoldsBetween : (NodeSight → Type 0) → List NodeSight → (first from to : ℕ) → Type 0
HoldsBetween P nodes first from to = (turn : ℕ) (node : NodeSight) → from ≤ turn → turn < to → node_after nodes first turn ≡ Some node → P node

abbrev pub IsReserved : NodeSight → Type 0
IsReserved node = IsSome node.reservation

-- a turn up to which this holds of all nodes from another on
pub record IsTurn (P : NodeSight → Type 0) (nodes : List NodeSight) (first from to : ℕ) : Type 0 where
  pub later : from ≤ to
  pub within : to ≤ length nodes
  pub passed : HoldsBetween P nodes first from to
