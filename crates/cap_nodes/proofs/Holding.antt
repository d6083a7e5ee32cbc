-- All that is true of a table of nodes, as a container is placed, and as a reservation is made and dropped.
use Rattle.cap_nodes.proofs.Prelude.{◌≡◌, ℕ, List, [], ◌∷◌, ◌++◌, length, map, refl, sym, ap, ◌∙◌, subst, Option, Some, None, filter, ◌==◌, IfSome, Fits, IsWithin, amount_max, less, plus, IsRising, ClusterNode, Container, NodeTable, sum_of_totals, Load, AreTied, HaveReservations, change_load, held_more, load_at, reservation_of, reserved_load, unreserved_load, IsLoadIn, arith, nat_tests, found, option_map}
use Rattle.cap_model.specs.Flat.{node_in}
use Rattle.cap_model.specs.Uses.{held_on}
use Rattle.cap_nodes.proofs.Changes.{nodes_of, rising_changed, same_nodes, tie_of, with_one, with_same}
use Rattle.cap_nodes.proofs.Dropping.{is_elsewhere}
use Rattle.cap_nodes.proofs.Reserving.{Has, have_changed, have_fewer, have_more}
use Rattle.cap_nodes.proofs.Ties.{is_found}

abbrev Holds : ℕ → List Load → List Container → List Container → ℕ → List ℕ → Type 0
Holds K loads live reserved next total =
    AreTied K loads live × (total ≡ sum_of_totals K (nodes_of loads)) × IsRising 1 (map (λ p. p.node.number) loads) next × IsWithin amount_max total × HaveReservations (map reservation_of reserved) loads

module _ (K : ℕ) (loads : List Load) (live reserved : List Container) (next : ℕ) (total : List ℕ) (h : Holds K loads live reserved next total) where
  -- after a change that leaves the nodes
  holds_still : (n : ℕ) (change : Load → Load) → ((p : Load) → (change p).node ≡ p.node) → (now made : List Container) → AreTied K (change_load n change loads) now →
      HaveReservations (map reservation_of made) (change_load n change loads) → Holds K (change_load n change loads) now made next total
  holds_still n change keeps now made tied have = (
    tied,
    h.1 ∙ ap (sum_of_totals K) (sym (same_nodes n change loads keeps)),
    rising_changed n change (λ p. ap (λ (x : ClusterNode). x.number) (keeps p)) loads next h.2,
    h.3,
    have,
  )

  -- as a container is placed
  pub holds_placed : (n : ℕ) (p : Load) (c : Container) → load_at loads n ≡ Some p → c.node ≡ n → Fits c.resource (less p.node.total p.held) → length (plus p.held c.resource) ≡ K →
      Holds K (change_load n (held_more c.resource) loads) (live ++ c ∷ []) reserved next total
  holds_placed n p c there home room count =
      holds_still n (held_more c.resource) (λ p. refl) (live ++ c ∷ []) reserved (with_one K loads live h.0 next n p c h.2 there home room count)
      (have_changed (map reservation_of reserved) n (held_more c.resource) (λ p. (refl, refl)) loads h.4)

  -- as a reservation is made, and as the one that a node holds is dropped
  pub holds_reserved : (c : Container) → Holds K (change_load c.node (reserved_load (reservation_of c)) loads) live (reserved ++ c ∷ []) next total
  holds_reserved c =
      holds_still c.node (reserved_load (reservation_of c)) (λ p. refl) live (reserved ++ c ∷ [])
      (with_same K loads live h.0 c.node (reserved_load (reservation_of c)) (λ p. refl) (λ p tie. record { held = tie.held; count = tie.count; fits = tie.fits; within = tie.within }))
      (have_more reserved c loads h.4)

  pub holds_dropped : (n : ℕ) (left : List Container) → map reservation_of left ≡ filter (is_elsewhere n) (map reservation_of reserved) → Holds K (change_load n unreserved_load loads) live left next total
  holds_dropped n left e =
      holds_still n unreserved_load (λ p. refl) live left
      (with_same K loads live h.0 n unreserved_load (λ p. refl) (λ p tie. record { held = tie.held; count = tie.count; fits = tie.fits; within = tie.within }))
      (subst (λ rs. HaveReservations rs (change_load n unreserved_load loads)) (sym e) (have_fewer (map reservation_of reserved) n loads h.4))

  -- a node that is lent
  pub load_in : (next_container n : ℕ) →
      IfSome (load_at loads n) (IsLoadIn K (record { present = nodes_of loads; live = live; reserved = map reservation_of reserved; next_node = next; next_container = next_container }))
  load_in next_container n = by (load_at loads n) refl
    where
      table : NodeTable
      table = record { present = nodes_of loads; live = live; reserved = map reservation_of reserved; next_node = next; next_container = next_container }

      by : (o : Option Load) → load_at loads n ≡ o → IfSome o (IsLoadIn K table)
      by None e = tt
      by (Some p) e =
          let tie = (tie_of K loads live h.0 n p e).0 in
          record { held = tie.held; fits = tie.fits; reservation = (is_found (Has (map reservation_of reserved)) (λ (q : Load). q.node.number == n) loads p e h.4).0 }

-- what is left of a node that a number finds
pub left_in : (K n : ℕ) (table : NodeTable) (p : Load) (free : List ℕ) → Some p.node ≡ node_in table n → IsLoadIn K table p → free ≡ less p.node.total p.held →
    Some free ≡ option_map (λ (node : ClusterNode). less node.total (held_on K table n)) (node_in table n)
left_in K n table p free there is left =
    let test = (found (λ (x : ClusterNode). x.number == n) table.present p.node (sym there)).1 in
    let own : p.node.number ≡ n = grind (arith, nat_tests, test) in
    ap (λ (v : List ℕ). Some v) (left ∙ ap (less p.node.total) (is.held ∙ ap (held_on K table) own)) ∙ ap (option_map (λ (node : ClusterNode). less node.total (held_on K table n))) there
