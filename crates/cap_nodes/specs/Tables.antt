-- What a node has left, and what is true of every table of nodes.
use Rattle.std.specs.Prelude.{◌≡◌, ℕ, List, [], Option, Some, None, IsSome, true, find, map, Bool, ◌==◌, ◌&&◌}
use Rattle.std.specs.List.{All}
use Rattle.cap_vector.specs.Vector.{Fits, less, IsWithin, amount_max}
use Rattle.cap_base.specs.Amounts.{fits}
use Rattle.cap_base.specs.Members.{IsRising}
use Rattle.cap_model.specs.Flat.{ClusterNode, NodeTable, node_in}
use Rattle.cap_model.specs.Admission.{takes_place}
use Rattle.cap_model.specs.RegisterNode.{sum_of_totals}
use Rattle.cap_model.specs.Sight.{NodeSight}
use Rattle.cap_model.specs.Uses.{held_on}
use Rattle.cap_nodes.specs.Loads.{Load}

-- what a node has left
abbrev pub left_of : Option ClusterNode → List ℕ → List ℕ
left_of (Some node) held = less node.total held
left_of None held = []

abbrev pub free_on : ℕ → NodeTable → ℕ → List ℕ
free_on K table n = left_of (node_in table n) (held_on K table n)

-- nodes have numbers from 1 that rise and are below the next, what the live containers on each hold fits its total, each live container is
-- on one of them, and they have no more together than the greatest amount of each resource
pub record IsSound (K : ℕ) (table : NodeTable) : Type 0 where
  pub rising : IsRising 1 (map (λ node. node.number) table.present) table.next_node
  pub held : All (λ node. fits (held_on K table node.number) node.total ≡ true) table.present
  pub homes : All (λ c. IsSome (node_in table c.node)) table.live
  pub totals : IsWithin amount_max (sum_of_totals K table.present)

-- a node with what the live containers on it hold, which fits its total, and the oldest reservation for it, as a table has them
pub record IsLoadIn (K : ℕ) (table : NodeTable) (p : Load) : Type 0 where
  pub held : p.held ≡ held_on K table p.node.number
  pub fits : Fits p.held p.node.total
  pub reservation : p.reservation ≡ find (λ r. r.node == p.node.number) table.reserved

-- a node as it is seen while it is empty, and whether it could take an ask of a place and a size then
abbrev pub empty_sight : ClusterNode → NodeSight
empty_sight node = record { number = node.number; host = node.host; rack = node.rack; total = node.total; free = node.total; reservation = None }

abbrev pub could_take : List ℕ → List ℕ → ClusterNode → Bool
could_take place resource node = takes_place place (empty_sight node) && fits resource node.total
