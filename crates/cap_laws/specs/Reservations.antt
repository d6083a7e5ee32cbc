-- Which reservations are dropped, and on which nodes they stand.
use Rattle.std.specs.Prelude.{◌≡◌, ℕ, Bool, true, List, not, filter, find, ◌==◌}
use Rattle.std.specs.List.{All}
use Rattle.std.specs.Option.{option_map_or}
use Rattle.cap_model.specs.Asks.{Ask}
use Rattle.cap_model.specs.Asking.{keep_first, reservations_left}
use Rattle.cap_base.specs.Cascade.{holds_of}
use Rattle.cap_base.specs.Amounts.{fits}
use Rattle.cap_model.specs.Bounds.{AreApart}
use Rattle.cap_model.specs.Flat.{Flat, ClusterNode, Reservation, app_at, is_for, with_reserved}

-- without the reservations that pass a test
abbrev pub without_reserved : {K : ℕ} → (Reservation → Bool) → Flat K → Flat K
without_reserved test cluster = with_reserved (filter (λ r. not (test r)) cluster.nodes.reserved) cluster

-- the reservations that stay where an ask of an application, already rounded, replaces that of its key
abbrev pub kept_by_ask : {K : ℕ} → ℕ → Ask → Flat K → List Reservation
kept_by_ask n ask cluster = keep_first (is_for n ask.key) (option_map_or (λ app. reservations_left app ask) (app_at cluster n) 0) cluster.nodes.reserved

-- whether the node of a reservation is present, and has as much in all
abbrev pub fits_its_node : List ClusterNode → Reservation → Bool
fits_its_node present r = holds_of (λ node. fits r.resource node.total) (find (λ node. node.number == r.node) present)

-- reservations are on different nodes, each on one that is present and has as much in all
pub record AreReserved (present : List ClusterNode) (reserved : List Reservation) : Type 0 where
  pub apart : AreApart reserved
  pub fit : All (λ r. fits_its_node present r ≡ true) reserved
