-- When an ask of a sight is admitted on a node.
use Rattle.std.specs.Prelude.{◌≡◌, ℕ, ◌<◌, Bool, ◌&&◌, List, Option, Some, None, nat_lt}
use Rattle.std.specs.Option.{option_map_or}
use Rattle.cap_vector.specs.Vector.{zeros}
use Rattle.cap_base.specs.Amounts.{fits}
use Rattle.cap_base.specs.Limits.{live_max, number_end}
use Rattle.cap_model.specs.declared.proposal.ProposalKind.{ProposalKind}
use Rattle.cap_model.specs.declared.proposal.ProposalKind.TheVariants.{Grant}
use Rattle.cap_model.specs.Asks.{Ask}
use Rattle.cap_model.specs.Sight.{AppSight, NodeSight, Sight, seen_node}
use Rattle.cap_model.specs.Admission.{IsAdmissible, NodeProposal, takes_place}
use Rattle.cap_farm.specs.Offers.{Offer}
use Rattle.cap_farm.specs.Ring.{node_after}
use Rattle.cap_farm.specs.Rooms.{in_limits, taken_as}
use Rattle.cap_choice.specs.declared.choice.Taker.{Taker}

-- the ask as a proposal of a kind on the node of a number
abbrev pub proposal_of : ProposalKind → ℕ → Offer → NodeProposal
proposal_of kind node o = record { kind = kind; app = o.app.number; key = o.ask.key; node = node; resource = o.ask.resource }

abbrev pub grant_of : ℕ → Offer → NodeProposal
grant_of node o = proposal_of Grant node o

-- the room of the node's reservation, 0 of each of K resources where it holds none
abbrev pub room_back : ℕ → NodeSight → List ℕ
room_back K node = option_map_or (λ r. r.resource) node.reservation (zeros K)

module _ {K : ℕ} where
  -- whether another container may be live, and has a number
  abbrev pub has_numbers : Sight K → Bool
  has_numbers sight = nat_lt sight.live live_max && nat_lt sight.next_container number_end

  -- whether an application may hold one more of a size, where it gives another up: there is a number, and limits are met
  abbrev pub may_hold : Sight K → AppSight → List ℕ → List ℕ → Bool
  may_hold sight app old new = has_numbers sight && in_limits sight app old new

  -- whether the grant of an ask is admissible on a node that holds a reservation for it, with that room
  abbrev pub may_convert : Sight K → NodeSight → List ℕ → Offer → Bool
  may_convert sight node room o = fits o.ask.resource node.free && takes_place o.ask.place node && may_hold sight o.app room o.ask.resource

  -- a node that a sight finds by its number
  abbrev pub IsSeenNode : Sight K → NodeSight → Type 0
  IsSeenNode sight node = seen_node sight node.number ≡ Some node

  -- the kind of proposal of the ask that is admissible on the node; none where neither kind is
  abbrev pub IsAdmittedAs : Sight K → ℕ → Offer → Option ProposalKind → Type 0
  IsAdmittedAs sight node o None = (kind : ProposalKind) → ¬ IsAdmissible sight (proposal_of kind node o)
  IsAdmittedAs sight node o (Some kind) = IsAdmissible sight (proposal_of kind node o)

  -- an ask of which no node without a reservation can hold a proposal
  abbrev pub IsClosed : Sight K → Offer → Type 0
  IsClosed sight o = (node : NodeSight) → IsSeenNode sight node → node.reservation ≡ None → IsAdmittedAs sight node.number o None

  -- an ask that is admissible on each node that takes it
  abbrev pub IsOpen : Sight K → Offer → Type 0
  IsOpen sight o = (node : NodeSight) (kind : ProposalKind) → IsSeenNode sight node → taken_as node o.ask ≡ Some kind → IsAdmissible sight (proposal_of kind node.number o)

  -- of the first so many nodes of the ring, none without a reservation admits the ask
  abbrev pub IsPassed : Sight K → ℕ → ℕ → Offer → Type 0
  IsPassed sight first nodes o = (turn : ℕ) (node : NodeSight) → turn < nodes → node_after sight.nodes first turn ≡ Some node → node.reservation ≡ None → IsAdmittedAs sight node.number o None

  -- the node after so many takes the ask as that
  abbrev pub TakesAt : Sight K → ℕ → ℕ → Ask → ProposalKind → Type 0
  TakesAt sight first turn ask kind = (node : NodeSight) → node_after sight.nodes first turn ≡ Some node → taken_as node ask ≡ Some kind

  -- the first of so many nodes that takes the ask, none before it admits it; or none of them does
  abbrev pub IsFirstTaker : Sight K → ℕ → ℕ → Offer → Option Taker → Type 0
  IsFirstTaker sight first nodes o None = IsPassed sight first nodes o
  IsFirstTaker sight first nodes o (Some taker) = (taker.turn < nodes) × IsPassed sight first taker.turn o × TakesAt sight first taker.turn o.ask taker.kind
