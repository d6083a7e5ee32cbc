-- The nodes of the ring without a reservation that are passed over, since no ask is admitted there.
use Rattle.cap_choice.proofs.Prelude.{◌≡◌, ℕ, ◌+◌, ◌<◌, ◌≤◌, List, length, Some, None, sym, ◌∙◌, ap, inl, inr, arith, Option, IsSome, not, slice_get, cases_lt, Reservation, Sight, NodeSight, choice_on, each_of, seen_node, IsOffer, IsWhole, Offer, IsClosed, IsPassed, IsSeenNode, node_after, ring_index, taken_as, IsReserved, IsShutFor, IsTurn, IsUnfit}
use Rattle.cap_choice.proofs.Admitting.{not_taken, over_limits_there}
use Rattle.cap_choice.proofs.Choosing.{none_chosen, slice_get_in}

pub at_most : (l m n : ℕ) → l < m → m ≤ n → l ≤ n
at_most l m n h g = omega (arith, h, g)

pub below : (l m n count : ℕ) → l < m → m ≤ n → count ≡ n → l < count
below l m n count h g e = omega (arith, h, g, e)

-- the node at an index of the ring
pub node_at : (nodes : List NodeSight) (first turn index count : ℕ) (node : NodeSight) → count ≡ length nodes → index ≡ ring_index first turn count → node_after nodes first turn ≡ Some node → slice_get nodes index ≡ Some node
node_at nodes first turn index count node count_is index_is at = ap (slice_get nodes) (index_is ∙ ap (ring_index first turn) count_is) ∙ at

module _ {K : ℕ} (sight : Sight K) (whole : IsWhole sight) where
  pub node_is : (i : ℕ) (node : NodeSight) → slice_get sight.nodes i ≡ Some node → IsSeenNode sight node
  node_is i node at = each_of (λ (n : NodeSight). seen_node sight n.number ≡ Some n) sight.nodes whole.nodes node (slice_get_in sight.nodes i node at)

  pub ring_node_is : (first turn : ℕ) (node : NodeSight) → node_after sight.nodes first turn ≡ Some node → IsSeenNode sight node
  ring_node_is first turn node at = node_is (ring_index first turn (length sight.nodes)) node at

  module _ (first : ℕ) (o : Offer) (is : IsOffer sight o) where
    -- no nodes, and fewer nodes
    pub none_passed : IsPassed sight first 0 o
    none_passed turn node h = absurd (omega (arith, h))

    pub fewer : (m n : ℕ) → m ≤ n → IsPassed sight first n o → IsPassed sight first m o
    fewer m n le p turn node h at unreserved = p turn node (omega (arith, le, h)) at unreserved

    -- with those that can't take it
    pub unfit_passed : (from to : ℕ) → IsTurn (IsUnfit o.ask) sight.nodes first from to → IsPassed sight first from o → IsPassed sight first to o
    unfit_passed from to t p turn node h at unreserved = elim (cases_lt turn from) [
      | inl early ↦ p turn node early at unreserved
      | inr late ↦ not_taken sight node o (ring_node_is first turn node at) whole is unreserved (t.passed turn node late h at)
    ]

    -- with one that doesn't take it
    pub one_more_passed : (turn : ℕ) → ((node : NodeSight) → node_after sight.nodes first turn ≡ Some node → taken_as node o.ask ≡ None) → IsPassed sight first turn o → IsPassed sight first (turn + 1) o
    one_more_passed turn not p t node h at unreserved = elim (cases_lt t turn) [
      | inl early ↦ p t node early at unreserved
      | inr late ↦
          let same : t ≡ turn = omega (arith, h, late) in
          not_taken sight node o (ring_node_is first t node at) whole is unreserved (not node (ap (node_after sight.nodes first) (sym same) ∙ at))
    ]

    -- an ask that no node can take
    pub closed_passed : (n : ℕ) → IsClosed sight o → IsPassed sight first n o
    closed_passed n closed turn node h at unreserved = closed node (ring_node_is first turn node at) unreserved

    -- or that is shut
    pub shut_passed : (n : ℕ) → IsShutFor sight o.app o.ask → IsPassed sight first n o
    shut_passed n (inl unfit) turn node h at unreserved = not_taken sight node o (ring_node_is first turn node at) whole is unreserved (unfit node (slice_get_in sight.nodes (ring_index first turn (length sight.nodes)) node at))
    shut_passed n (inr over) turn node h at unreserved = over_limits_there sight node o (ring_node_is first turn node at) whole is unreserved over

  -- nodes that hold reservations are passed over
  held_none : (o : Option Reservation) → IsSome o → o ≡ None → ⊥
  held_none None h e = cc h
  held_none (Some r) h e = cc e

  pub reserved_passed : (first n least : ℕ) (o : Offer) → IsTurn IsReserved sight.nodes first 0 least → n ≤ least → IsPassed sight first n o
  reserved_passed first n least o t le turn node h at unreserved = absurd (held_none node.reservation (t.passed turn node (omega arith) (omega (arith, h, le)) at) unreserved)

  -- a node without a reservation that is passed over for all asks has no choice
  pub passed_has_none : (first n turn : ℕ) (node : NodeSight) → ((o : Offer) → IsOffer sight o → IsPassed sight first n o) → turn < n → node_after sight.nodes first turn ≡ Some node → node.reservation ≡ None → None ≡ choice_on sight node.number
  passed_has_none first n turn node all h at unreserved = none_chosen sight node.number (λ o is. all o is turn node h at unreserved)
