-- What a node has room for, and what limits allow.
use Rattle.std.specs.Prelude.{◌≡◌, ◌⊎◌, ℕ, ◌<◌, ◌≤◌, Bool, false, ◌&&◌, List, Option, Some, None, is_none, length, nat_le, if◌then◌else◌}
use Rattle.std.specs.List.{list_all, slice_get}
use Rattle.cap_vector.specs.Vector.{amounts_exchanged, zeros}
use Rattle.cap_base.specs.Amounts.{fits}
use Rattle.cap_base.specs.Cascade.{holds_of}
use Rattle.cap_base.specs.LimitTests.{fits_maximum, fits_user_limit}
use Rattle.cap_base.specs.Members.{IsIn}
use Rattle.cap_model.specs.declared.proposal.ProposalKind.{ProposalKind}
use Rattle.cap_model.specs.declared.proposal.ProposalKind.TheVariants.{Grant, Reserve}
use Rattle.cap_model.specs.Asks.{Ask}
use Rattle.cap_model.specs.Admission.{takes_place}
use Rattle.cap_model.specs.Flat.{Reservation, is_for}
use Rattle.cap_model.specs.Sight.{AppSight, NodeSight, Sight, queues_to, seen_queue, still_wanted}
use Rattle.cap_farm.specs.Offers.{IsOffer, Offer}

-- the kind of proposal for which a node has room, where it holds no reservation
abbrev pub kind_by_room : NodeSight → Ask → Option ProposalKind
kind_by_room node ask = if fits ask.resource node.free then Some Grant else (if fits ask.resource node.total then Some Reserve else None)

-- as what a node takes an ask: none where it holds a reservation, is elsewhere, or has too little room
abbrev pub taken_as : NodeSight → Ask → Option ProposalKind
taken_as node ask = if is_none node.reservation && takes_place ask.place node then kind_by_room node ask else None

-- a node that doesn't take an ask
abbrev pub IsUnfit : Ask → NodeSight → Type 0
IsUnfit ask node = taken_as node ask ≡ None

-- the kind for which a node has room beside the reservation that it may hold: with one that is a grant of the ask that it is for
abbrev pub kind_beside : Option Reservation → ℕ → NodeSight → Offer → Option ProposalKind
kind_beside None wanted node o = if nat_le 1 wanted then kind_by_room node o.ask else None
kind_beside (Some r) wanted node o = if is_for o.app.number o.ask.key r && fits o.ask.resource node.free then Some Grant else None

module _ {K : ℕ} where
  abbrev pub room_kind : Sight K → NodeSight → Offer → Option ProposalKind
  room_kind sight node o = kind_beside node.reservation (still_wanted sight o.app.number o.ask) node o

  -- a node on which no reservation can be converted: it holds none, or has no room for an ask that it is for
  abbrev pub IsIdle : Sight K → NodeSight → Type 0
  IsIdle sight node = (node.reservation ≡ None) ⊎ ((o : Offer) → IsOffer sight o → room_kind sight node o ≡ None)

  -- whether the queues and the user of an application stay within their limits, with old taken away and new added
  abbrev pub in_limits : Sight K → AppSight → List ℕ → List ℕ → Bool
  in_limits sight app old new =
      list_all (λ q. fits_maximum q.row.maximum (amounts_exchanged old new q.used)) (queues_to sight app.leaf)
      && holds_of (λ q. fits_user_limit q.row.factor q.row.guaranteed (amounts_exchanged old new (q.used_by app.user))) (seen_queue sight app.leaf)

  -- an ask that no node of a sight takes
  abbrev pub IsImpossible : Sight K → Ask → Type 0
  IsImpossible sight ask = (node : NodeSight) → IsIn node sight.nodes → IsUnfit ask node

  -- so are the asks from one on, before another
  pub record AreImpossible (sight : Sight K) (asks : List Ask) (from to : ℕ) : Type 0 where
    pub later : from ≤ to
    pub within : to ≤ length asks
    pub passed : (index : ℕ) (ask : Ask) → from ≤ index → index < to → slice_get asks index ≡ Some ask → IsImpossible sight ask

  -- an ask that no node takes, or that the limits of its application allow on none that holds no reservation
  abbrev pub IsShutFor : Sight K → AppSight → Ask → Type 0
  IsShutFor sight app ask = IsImpossible sight ask ⊎ (in_limits sight app (zeros K) ask.resource ≡ false)

  -- so is each ask of an application
  abbrev pub IsShut : Sight K → AppSight → Type 0
  IsShut sight app = (ask : Ask) → IsIn ask app.asks → IsShutFor sight app ask
