-- The tests of a proposal, by what they look at, and what a proposal takes back.
use Rattle.std.specs.Prelude.{ℕ, Bool, List, Option, None, ◌&&◌, drop, if◌then◌else◌}
use Rattle.std.specs.Option.{option_map_or}
use Rattle.cap_vector.specs.Vector.{less, zeros}
use Rattle.cap_model.specs.declared.proposal.Reason.{Reason}
use Rattle.cap_model.specs.Flat.{Reservation}
use Rattle.cap_model.specs.Sight.{NodeSight, Sight}
use Rattle.cap_model.specs.Admission.{NodeProposal, is_grant, is_reserved_for, node_reservation, reasons}
use Rattle.cap_nodes.specs.Loads.{Load}

-- what is seen of a node that is lent with what it holds and its reservation
abbrev pub load_sight : Load → NodeSight
load_sight p = record {
  number = p.node.number;
  host = p.node.host;
  rack = p.node.rack;
  total = p.node.total;
  free = less p.node.total p.held;
  reservation = p.reservation;
}

module _ {K : ℕ} where
  -- the tests of the limits of queues and user, and those after them; and the tests of numbers and sizes, the last of them
  abbrev pub limit_tests : Sight K → NodeProposal → List (Bool × Reason)
  limit_tests sight p = drop 7 (reasons sight p)

  abbrev pub size_tests : Sight K → NodeProposal → List (Bool × Reason)
  size_tests sight p = drop 9 (reasons sight p)

  -- whether a proposal is a grant that converts the reservation on its node: that is for its application and key
  abbrev pub is_own : Sight K → NodeProposal → Bool
  is_own sight p = is_grant p.kind && is_reserved_for sight p

  -- the reservation that a grant converts
  abbrev pub own_reservation : Sight K → NodeProposal → Option Reservation
  own_reservation sight p = if is_own sight p then node_reservation sight p else None

  -- the room that it takes back, 0 of each where it converts none
  abbrev pub taken_back : Sight K → NodeProposal → List ℕ
  taken_back sight p = option_map_or (λ r. r.resource) (own_reservation sight p) (zeros K)
