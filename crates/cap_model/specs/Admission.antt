-- When a proposal may be granted or reserved, and the first reason why not.
use Rattle.std.specs.Prelude.{◌≡◌, ◌⊎◌, ℕ, ◌<◌, Bool, true, false, not, ◌&&◌, ◌||◌, List, [], ◌∷◌, Option, None, is_some, is_none, option_and_then, unwrap_or, option_map, position, nat_le, bytes_eq, if◌then◌else◌}
use Rattle.std.specs.List.{list_all}
use Rattle.cap_vector.specs.Vector.{amounts_exchanged}
use Rattle.cap_base.specs.Limits.{number_end, live_max}
use Rattle.cap_base.specs.Cascade.{earliest, holds_of}
use Rattle.cap_base.specs.Amounts.{fits}
use Rattle.cap_base.specs.LimitTests.{fits_maximum, fits_user_limit}
use Rattle.cap_base.specs.Texts.{star}
use Rattle.cap_model.specs.declared.ask.Key.{Key}
use Rattle.cap_model.specs.declared.proposal.ProposalKind.{ProposalKind}
use Rattle.cap_model.specs.declared.proposal.ProposalKind.TheVariants.{Grant, Reserve}
use Rattle.cap_model.specs.declared.proposal.Reason.{Reason}
use Rattle.cap_model.specs.declared.proposal.Reason.TheVariants.{NoApp, NoAsk, OtherAsk, NoNode, WrongPlace, ReservedByOther, NoRoom, OverMaximum, OverUser, TooManyLive, FitsNow, NeverFits, NumbersSpent}
use Rattle.cap_model.specs.Asks.{Ask}
use Rattle.cap_model.specs.Flat.{Reservation, is_for, ask_at}
use Rattle.cap_model.specs.Sight.{Sight, QueueSight, NodeSight, seen_app, seen_node, seen_queue, queues_to, still_wanted}

-- a proposal: a container of this resource for the application's ask under the key, on the node
pub record NodeProposal : Type 0 where
  pub kind : ProposalKind
  pub app : ℕ
  pub key : Key
  pub node : ℕ
  pub resource : List ℕ

-- the number of a reason
abbrev pub reason_number : Reason → ℕ
reason_number NoApp = 1
reason_number NoAsk = 2
reason_number OtherAsk = 3
reason_number NoNode = 4
reason_number WrongPlace = 5
reason_number ReservedByOther = 6
reason_number NoRoom = 7
reason_number (OverMaximum level) = 8
reason_number OverUser = 9
reason_number TooManyLive = 10
reason_number FitsNow = 11
reason_number NeverFits = 12
reason_number NumbersSpent = 13

abbrev pub is_grant : ProposalKind → Bool
is_grant Grant = true
is_grant Reserve = false

-- whether a place is anywhere (an asterisk), the node's host or its rack
abbrev pub takes_place : List ℕ → NodeSight → Bool
takes_place place node = bytes_eq place (star ∷ []) || bytes_eq place node.host || bytes_eq place node.rack

module _ {K : ℕ} where
  -- the ask that a proposal is for
  abbrev pub proposed_ask : Sight K → NodeProposal → Option Ask
  proposed_ask sight p = option_and_then (λ app. ask_at p.key app.asks) (seen_app sight p.app)

  -- the reservation that the proposal's node holds, and whether it is for the proposal's own application and key
  abbrev pub node_reservation : Sight K → NodeProposal → Option Reservation
  node_reservation sight p = option_and_then (λ node. node.reservation) (seen_node sight p.node)

  abbrev pub is_reserved_for : Sight K → NodeProposal → Bool
  is_reserved_for sight p = holds_of (is_for p.app p.key) (node_reservation sight p)

  -- whether the ask wants a container beyond those that room is reserved for
  abbrev pub is_wanted : Sight K → NodeProposal → Bool
  is_wanted sight p = holds_of (λ ask. nat_le 1 (still_wanted sight p.app ask)) (proposed_ask sight p)

  -- whether the ask is for this very resource, and its place suits the node
  abbrev pub asks_resource : Sight K → NodeProposal → Bool
  asks_resource sight p = holds_of (λ ask. bytes_eq ask.resource p.resource) (proposed_ask sight p)

  abbrev pub suits_place : Sight K → NodeProposal → Bool
  suits_place sight p = holds_of (λ ask. holds_of (takes_place ask.place) (seen_node sight p.node)) (proposed_ask sight p)

  -- whether the resource fits what the node has left, and the node's total
  abbrev pub fits_free : Sight K → NodeProposal → Bool
  fits_free sight p = holds_of (λ node. fits p.resource node.free) (seen_node sight p.node)

  abbrev pub fits_total : Sight K → NodeProposal → Bool
  fits_total sight p = holds_of (λ node. fits p.resource node.total) (seen_node sight p.node)

  -- what a grant takes back: the room that was reserved on the node for its application and key
  abbrev pub room_replaced : Sight K → NodeProposal → List ℕ
  room_replaced sight p = if is_grant p.kind && is_reserved_for sight p then unwrap_or (option_map (λ r. r.resource) (node_reservation sight p)) [] else []

  -- a use as the proposal would leave it
  abbrev pub use_after : Sight K → NodeProposal → List ℕ → List ℕ
  use_after sight p used = amounts_exchanged (room_replaced sight p) p.resource used

  -- the leaf queue and the user of the proposal's application
  abbrev pub leaf_path : Sight K → NodeProposal → List ℕ
  leaf_path sight p = unwrap_or (option_map (λ app. app.leaf) (seen_app sight p.app)) []

  abbrev pub user_name : Sight K → NodeProposal → List ℕ
  user_name sight p = unwrap_or (option_map (λ app. app.user) (seen_app sight p.app)) []

  -- whether a queue would stay within its maximum, where it has one
  abbrev pub stays_in_maximum : Sight K → NodeProposal → QueueSight → Bool
  stays_in_maximum sight p q = fits_maximum q.row.maximum (use_after sight p q.used)

  -- whether every queue from the root down to the leaf would
  abbrev pub stays_in_maxima : Sight K → NodeProposal → Bool
  stays_in_maxima sight p = list_all (stays_in_maximum sight p) (queues_to sight (leaf_path sight p))

  -- the least level, counted from the root as 0, whose maximum would be passed
  abbrev pub broken_level : Sight K → NodeProposal → Option ℕ
  broken_level sight p = position (λ q. not (stays_in_maximum sight p q)) (queues_to sight (leaf_path sight p))

  -- whether the user would stay within the leaf's user limit factor times its guarantee
  abbrev pub stays_in_user_limit : Sight K → NodeProposal → Bool
  stays_in_user_limit sight p =
      holds_of (λ q. fits_user_limit q.row.factor q.row.guaranteed (use_after sight p (q.used_by (user_name sight p)))) (seen_queue sight (leaf_path sight p))

  -- what every proposal needs: its ask, its node, the place, the maxima of its queues, the user limit, and numbers
  pub record IsWithinLimits (sight : Sight K) (p : NodeProposal) : Type 0 where
    pub registered : is_some (seen_app sight p.app) ≡ true
    pub asked : is_some (proposed_ask sight p) ≡ true
    pub resource : asks_resource sight p ≡ true
    pub present : is_some (seen_node sight p.node) ≡ true
    pub place : suits_place sight p ≡ true
    pub maxima : stays_in_maxima sight p ≡ true
    pub user : stays_in_user_limit sight p ≡ true
    pub few_live : sight.live < live_max
    pub numbers_left : sight.next_container < number_end

  -- A grant needs room, and either a node without reservation and a container that is still wanted, or the node's reservation.
  abbrev pub NeedsOf : Sight K → NodeProposal → ProposalKind → Type 0
  NeedsOf sight p Grant =
      (fits_free sight p ≡ true)
      × (((node_reservation sight p ≡ None) × (is_wanted sight p ≡ true)) ⊎ (is_reserved_for sight p ≡ true))
  -- A reservation needs a container that is still wanted, a node without one, and a resource that fits the node, but not now.
  NeedsOf sight p Reserve =
      (is_wanted sight p ≡ true)
      × (node_reservation sight p ≡ None)
      × (fits_free sight p ≡ false)
      × (fits_total sight p ≡ true)

  -- an admissible grant, or an admissible reservation
  abbrev pub IsAdmissible : Sight K → NodeProposal → Type 0
  IsAdmissible sight p = IsWithinLimits sight p × NeedsOf sight p p.kind

  -- the tests of a proposal in their order, each with the reason where it holds
  abbrev pub reasons : Sight K → NodeProposal → List (Bool × Reason)
  reasons sight p =
      (is_none (seen_app sight p.app), NoApp)
      ∷ (is_none (proposed_ask sight p) || not (is_wanted sight p || is_grant p.kind && is_reserved_for sight p), NoAsk)
      ∷ (not (asks_resource sight p), OtherAsk)
      ∷ (is_none (seen_node sight p.node), NoNode)
      ∷ (not (suits_place sight p), WrongPlace)
      ∷ (is_some (node_reservation sight p) && not (is_grant p.kind && is_reserved_for sight p), ReservedByOther)
      ∷ (is_grant p.kind && not (fits_free sight p), NoRoom)
      ∷ (not (stays_in_maxima sight p), OverMaximum (unwrap_or (broken_level sight p) 0))
      ∷ (not (stays_in_user_limit sight p), OverUser)
      ∷ (nat_le live_max sight.live, TooManyLive)
      ∷ (not (is_grant p.kind) && fits_free sight p, FitsNow)
      ∷ (not (is_grant p.kind) && not (fits_total sight p), NeverFits)
      ∷ (nat_le number_end sight.next_container, NumbersSpent)
      ∷ []

  -- the first reason why a proposal is rejected, none where it is admissible
  abbrev pub reason_of : Sight K → NodeProposal → Option Reason
  reason_of sight p = earliest (reasons sight p)
