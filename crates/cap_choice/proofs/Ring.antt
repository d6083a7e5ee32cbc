-- The nodes as a ring.
use Rattle.cap_choice.proofs.Prelude.{◌≡◌, ℕ, suc, ◌+◌, ◌-◌, ◌<◌, ◌≤◌, true, false, cond, List, ◌∷◌, ◌++◌, length, get_or, take, drop, Some, None, refl, sym, ◌∙◌, ap, inl, inr, arith, length-append, length-drop, drop-cons, ◌%◌, nat_lt, slice_get, option_or, cases_lt, nat_tests, drop_all, get_or-append_right, get_or-drop, get_or-take, get_or_append_left, length-take, get_or_from_slice_get, Sight, NodeSight, NodeProposal, ring_from, choice_from, [], choice_on, first_choice, ring_index, zero, subst, IsSome, Option, IsNearestBefore, IsIdle, IsTurn, IsWhole, node_after}
use Rattle.std.proofs.lemmas.Option.{slice_get-get_or}
use Rattle.cap_choice.proofs.Admitting.{without_room}
use Rattle.cap_choice.proofs.Choosing.{none_chosen}
use Rattle.cap_choice.proofs.Passing.{passed_has_none, ring_node_is}

module _ (nodes : List NodeSight) (f : ℕ) where
  abbrev ring : List NodeSight
  ring = drop f nodes ++ take f nodes

  ring_length : length (drop f nodes ++ take f nodes) ≡ length nodes
  ring_length = let a = length-append (drop f nodes) (take f nodes) in let b = length-drop f nodes in let c = length-take f nodes in omega (arith, a, b, c)

  before_end : (turn : ℕ) (d : NodeSight) → f < length nodes → turn < length nodes - f → get_or ring turn d ≡ get_or nodes (f + turn) d
  before_end turn d h t =
      let l = length-drop f nodes in
      let within : turn < length (drop f nodes) = omega (arith, l, t) in
      get_or_append_left (drop f nodes) (take f nodes) d turn within ∙ get_or-drop f nodes turn d

  after_end : (turn : ℕ) (d : NodeSight) → f < length nodes → length nodes - f ≤ turn → turn < length nodes → get_or ring turn d ≡ get_or nodes (turn - (length nodes - f)) d
  after_end turn d h t m =
      let l = length-drop f nodes in
      let n : length (drop f nodes) ≡ length nodes - f = l in
      get_or-append_right (drop f nodes) (take f nodes) (length nodes - f) turn d n t ∙ get_or-take f nodes (turn - (length nodes - f)) d (omega (arith, h, t, m))

  ring_at : (turn : ℕ) (d : NodeSight) → f < length nodes → turn < length nodes → get_or ring turn d ≡ get_or nodes (ring_index f turn (length nodes)) d
  ring_at turn d h t = elim (cases_lt turn (length nodes - f)) [
    | inl below ↦
        let test : nat_lt turn (length nodes - f) ≡ true = grind (arith, nat_tests, below) in
        before_end turn d h below ∙ ap (λ b. get_or nodes (cond b (f + turn) (turn - (length nodes - f))) d) (sym test)
    | inr past ↦
        let test : nat_lt turn (length nodes - f) ≡ false = grind (arith, nat_tests, past) in
        after_end turn d h past t ∙ ap (λ b. get_or nodes (cond b (f + turn) (turn - (length nodes - f))) d) (sym test)
  ]

module _ {K : ℕ} (sight : Sight K) (start : ℕ) where
  abbrev whole : List NodeSight
  whole = ring_from start sight.nodes

  -- none of so many nodes of the ring has a choice
  pub record NoneChosen (turn : ℕ) : Type 0 where
    pub rest : choice_from sight start ≡ first_choice sight (drop turn (ring_from start sight.nodes))

  pub none_at_first : NoneChosen 0
  none_at_first = record { rest = refl }

  -- the node after so many
  next_is : (turn first count index : ℕ) (node : NodeSight) → count ≡ length sight.nodes → first ≡ start % length sight.nodes → first < count → turn < count → index ≡ ring_index first turn count →
      slice_get sight.nodes index ≡ Some node → drop turn whole ≡ node ∷ drop (suc turn) whole
  next_is turn first count index node count_is first_is h t index_is at =
      let f = start % length sight.nodes in
      let within : f < length sight.nodes = omega (arith, first_is, count_is, h) in
      let turn_within : turn < length sight.nodes = omega (arith, count_is, t) in
      let long = ring_length sight.nodes f in
      let turn_in_ring : turn < length whole = omega (arith, long, turn_within) in
      let same_index : index ≡ ring_index f turn (length sight.nodes) = index_is ∙ (λ i. ring_index (first_is i) turn (count_is i)) in
      let read : get_or sight.nodes index node ≡ node = get_or_from_slice_get sight.nodes index node node at in
      let there : get_or whole turn node ≡ node = ring_at sight.nodes f turn node within turn_within ∙ ap (λ i. get_or sight.nodes i node) (sym same_index) ∙ read in
      drop-cons whole turn node turn_in_ring ∙ ap (λ x. x ∷ drop (suc turn) whole) there

  module _ (turn first count index : ℕ) (node : NodeSight) (count_is : count ≡ length sight.nodes) (first_is : first ≡ start % length sight.nodes) (h : first < count) (t : turn < count)
      (index_is : index ≡ ring_index first turn count) (at : slice_get sight.nodes index ≡ Some node) (none : NoneChosen turn) where
    here : choice_from sight start ≡ option_or (choice_on sight node.number) (first_choice sight (drop (suc turn) whole))
    here = none.rest ∙ ap (first_choice sight) (next_is turn first count index node count_is first_is h t index_is at)

    pub node_passed : None ≡ choice_on sight node.number → NoneChosen (turn + 1)
    node_passed e =
        let s : turn + 1 ≡ suc turn = omega arith in
        record { rest = here ∙ ap (λ o. option_or o (first_choice sight (drop (suc turn) whole))) (sym e) ∙ ap (λ n. first_choice sight (drop n whole)) (sym s) }

    pub node_chosen : (p : NodeProposal) → Some p ≡ choice_on sight node.number → Some p ≡ choice_from sight start
    node_chosen p e = sym (here ∙ ap (λ o. option_or o (first_choice sight (drop (suc turn) whole))) (sym e))

  pub all_passed : (turn : ℕ) → length sight.nodes ≤ turn → NoneChosen turn → None ≡ choice_from sight start
  all_passed turn h none =
      let long = ring_length sight.nodes (start % length sight.nodes) in
      sym (none.rest ∙ ap (first_choice sight) (drop_all turn whole (omega (arith, long, h))))

pub within_count : (start n : ℕ) → (n ≡ 0 → ⊥) → start % n < n
within_count start n some = omega (arith, some)

pub some_count : (n : ℕ) → (n ≡ 0 → ⊥) → 0 < n
some_count n some = omega (arith, some)

nowhere : NodeSight
nowhere = record { number = 0; host = []; rack = []; total = []; free = []; reservation = None }

pub ring_within : (first turn count : ℕ) → first < count → turn < count → ring_index first turn count < count
ring_within first turn count h t = elim (cases_lt turn (count - first)) [
  | inl below ↦
      let test : nat_lt turn (count - first) ≡ true = grind (arith, nat_tests, below) in
      subst (λ b. cond b (first + turn) (turn - (count - first)) < count) (sym test) (omega (arith, below, h))
  | inr past ↦
      let test : nat_lt turn (count - first) ≡ false = grind (arith, nat_tests, past) in
      subst (λ b. cond b (first + turn) (turn - (count - first)) < count) (sym test) (omega (arith, past, h, t))
]

-- there is a node at each turn
pub some_node : (nodes : List NodeSight) (first turn : ℕ) → first < length nodes → turn < length nodes → (node : NodeSight) × (node_after nodes first turn ≡ Some node)
some_node nodes first turn h t = (get_or nodes (ring_index first turn (length nodes)) nowhere, slice_get-get_or nodes (ring_index first turn (length nodes)) nowhere (ring_within first turn (length nodes) h t))

-- nodes of the first so many turns that come before another turn have no choice
abbrev pub NoneBefore : {K : ℕ} → Sight K → (first turn end : ℕ) → Type 0
NoneBefore sight first turn end = (t : ℕ) (node : NodeSight) → t < turn → t < end → node_after sight.nodes first t ≡ Some node → None ≡ choice_on sight node.number

module _ {K : ℕ} (sight : Sight K) (start first : ℕ) (first_is : first ≡ start % length sight.nodes) (h : first < length sight.nodes) where
  pub none_chosen_before : (n : ℕ) → n ≤ length sight.nodes → ((t : ℕ) (node : NodeSight) → t < n → node_after sight.nodes first t ≡ Some node → None ≡ choice_on sight node.number) → NoneChosen sight start n
  none_chosen_before zero le none = none_at_first sight start
  none_chosen_before (suc n) le none =
      let there = some_node sight.nodes first n h (omega (arith, le)) in
      let earlier = none_chosen_before n (omega (arith, le)) (λ t node less at. none t node (omega (arith, less)) at) in
      let one : n + 1 ≡ suc n = omega arith in
      subst (NoneChosen sight start) one
      (node_passed sight start n first (length sight.nodes) (ring_index first n (length sight.nodes)) (there.0) refl first_is h (omega (arith, le)) refl (there.1) earlier (none n (there.0) (omega arith) (there.1)))

  module _ (whole : IsWhole sight) (end : ℕ) (proposal : Option NodeProposal) (near : IsNearestBefore sight first None end proposal) where
    -- a node without a reservation that comes before the nearest
    pub unreserved_none : (t : ℕ) (node : NodeSight) → t < end → node_after sight.nodes first t ≡ Some node → node.reservation ≡ None → None ≡ choice_on sight node.number
    unreserved_none t node less at unreserved = passed_has_none sight whole first end t node (λ o is. near.passed o is tt) less at unreserved

    pub more_before : (from to : ℕ) → IsTurn (IsIdle sight) sight.nodes first from to → NoneBefore sight first from end → NoneBefore sight first to end
    more_before from to turn none t node less within at = elim (cases_lt t from) [
      | inl early ↦ none t node early within at
      | inr late ↦
          elim (turn.passed t node late less at) [
            | inl unreserved ↦ unreserved_none t node within at unreserved
            | inr none ↦ none_chosen sight node.number (λ o is. without_room sight node o (ring_node_is sight whole first t node at) whole is (none o is))
          ]
    ]

    pub one_more_before : (turn : ℕ) → ((node : NodeSight) → node_after sight.nodes first turn ≡ Some node → None ≡ choice_on sight node.number) → NoneBefore sight first turn end → NoneBefore sight first (turn + 1) end
    one_more_before turn here none t node less within at = elim (cases_lt t turn) [
      | inl early ↦ none t node early within at
      | inr late ↦ let same : t ≡ turn = omega (arith, less, late) in here node (ap (node_after sight.nodes first) (sym same) ∙ at)
    ]

    all_before : (turn n : ℕ) → n ≤ turn → n ≤ end → n ≤ length sight.nodes → NoneBefore sight first turn end → NoneChosen sight start n
    all_before turn n le within most none = none_chosen_before n most (λ t node less at. none t node (omega (arith, less, le)) (omega (arith, less, within)) at)

    -- what a node chooses that comes before the nearest
    pub chosen_before : (turn : ℕ) (node : NodeSight) (p : NodeProposal) → turn < end → node_after sight.nodes first turn ≡ Some node → NoneBefore sight first turn end → Some p ≡ choice_on sight node.number → Some p ≡ choice_from sight start
    chosen_before turn node p less at none e =
        let most = near.within in
        node_chosen sight start turn first (length sight.nodes) (ring_index first turn (length sight.nodes)) node refl first_is h (omega (arith, less, most)) refl at
        (all_before turn turn (omega arith) (omega (arith, less)) (omega (arith, less, most)) none) p e

    -- and else the nearest is the choice
    pub nearest_chosen : (turn : ℕ) → end ≤ turn → NoneBefore sight first turn end → proposal ≡ choice_from sight start
    nearest_chosen turn le none = elim (cases_lt end (length sight.nodes)) [
      | inl inside ↦
          let there = some_node sight.nodes first end h inside in
          let chosen = near.chosen inside (there.0) (there.1) in
          by proposal (there.0) inside (there.1) (chosen.0) (chosen.1)
      | inr past ↦ near.none past ∙ all_passed sight start end past before
    ]
      where
        before : NoneChosen sight start end
        before = let most = near.within in all_before turn end le (omega arith) most none

        by : (o : Option NodeProposal) (node : NodeSight) → end < length sight.nodes → node_after sight.nodes first end ≡ Some node → IsSome o → o ≡ choice_on sight node.number → o ≡ choice_from sight start
        by None node inside at some e = absurd (cc some)
        by (Some p) node inside at some e = node_chosen sight start end first (length sight.nodes) (ring_index first end (length sight.nodes)) node refl first_is h inside refl at before p e
