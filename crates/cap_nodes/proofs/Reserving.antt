-- The reservation that each node has, as one more is made, one is dropped, and nodes come, change and go.
use Rattle.cap_nodes.proofs.Prelude.{◌≡◌, ℕ, Bool, true, false, cond, List, [], ◌∷◌, ◌++◌, map, refl, sym, ap, ◌∙◌, arith, subst, Option, Some, None, filter, find, not, ◌==◌, AllByRecursion, option_or, eqb-true, nat_tests, map_push, find-append, Container, Reservation, find_gone, find_others, Load, HaveReservations, load_at, change_load, reservation_of, reserved_load, unreserved_load}
use Rattle.cap_nodes.proofs.Dropping.{is_elsewhere}
use Rattle.cap_nodes.proofs.Ties.{all_kept, all_mapped, all_pushed, is_found}

-- a change of a node that is not there
pub none_changed : (n : ℕ) (change : Load → Load) (loads : List Load) → None ≡ load_at loads n → change_load n change loads ≡ loads
none_changed n change [] e = refl
none_changed n change (p ∷ loads) e = by (p.node.number == n) e (none_changed n change loads)
  where
    by : (b : Bool) → None ≡ cond b (Some p) (load_at loads n) → (None ≡ load_at loads n → change_load n change loads ≡ loads) → cond b (change p) p ∷ change_load n change loads ≡ p ∷ loads
    by true h more = absurd (cc h)
    by false h more = ap (λ ps. p ∷ ps) (more h)

-- what holds of each load after a change of those of a number
all_either : (P Q : Load → Type 0) (n : ℕ) (change : Load → Load) (loads : List Load) → ((q : Load) → P q → (q.node.number == n) ≡ true → Q (change q)) → ((q : Load) → P q → (q.node.number == n) ≡ false → Q q) →
    AllByRecursion P loads → AllByRecursion Q (change_load n change loads)
all_either P Q n change [] own other all = tt
all_either P Q n change (q ∷ loads) own other all = (by (q.node.number == n) refl, all_either P Q n change loads own other all.1)
  where
    by : (b : Bool) → (q.node.number == n) ≡ b → Q (cond b (change q) q)
    by true e = own q all.0 e
    by false e = other q all.0 e

abbrev pub Has : List Reservation → Load → Type 0
Has reserved p = p.reservation ≡ find (λ r. r.node == p.node.number) reserved

module _ (reserved : List Reservation) where
  abbrev on : ℕ → Option Reservation
  on n = find (λ r. r.node == n) reserved

  -- the reservation of the node of a number, and of the node at an index
  pub its_own : (loads : List Load) (n : ℕ) (p : Load) → load_at loads n ≡ Some p → HaveReservations reserved loads → p.reservation ≡ find (λ r. r.node == n) reserved
  its_own loads n p there have = let f = is_found (Has reserved) (λ (q : Load). q.node.number == n) loads p there have in f.0 ∙ ap on (eqb-true p.node.number n f.1)

  -- a change that leaves the number of a node and its reservation
  pub have_changed : (n : ℕ) (change : Load → Load) → ((p : Load) → ((change p).reservation ≡ p.reservation) × ((change p).node.number ≡ p.node.number)) → (loads : List Load) → HaveReservations reserved loads →
      HaveReservations reserved (change_load n change loads)
  have_changed n change keeps loads have = all_mapped (Has reserved) (Has reserved) n change loads (λ q h. (keeps q).0 ∙ h ∙ ap on (sym (keeps q).1)) (λ q h. h) have

  -- one node more, and one less
  pub have_pushed : (loads : List Load) (p : Load) → HaveReservations reserved loads → p.reservation ≡ find (λ r. r.node == p.node.number) reserved → HaveReservations reserved (loads ++ p ∷ [])
  have_pushed loads p have its = all_pushed (Has reserved) loads p have its

  pub have_kept : (n : ℕ) (loads : List Load) → HaveReservations reserved loads → HaveReservations reserved (filter (λ p. not (p.node.number == n)) loads)
  have_kept n loads have = all_kept (Has reserved) (Has reserved) (λ p. not (p.node.number == n)) loads (λ p h _. h) have

  -- without the one for a node
  pub have_fewer : (n : ℕ) (loads : List Load) → HaveReservations reserved loads → HaveReservations (filter (is_elsewhere n) reserved) (change_load n unreserved_load loads)
  have_fewer n loads have =
      all_either (Has reserved) (Has (filter (is_elsewhere n) reserved)) n unreserved_load loads
      (λ q h e. sym (find_gone (λ (r : Reservation). r.node) n q.node.number (grind (arith, nat_tests, e)) reserved))
      (λ q h e. h ∙ sym (find_others (λ (r : Reservation). r.node) n q.node.number (grind (arith, nat_tests, e)) reserved))
      have

-- with one more
no_other : {X : Type 0} (o : Option X) → option_or o None ≡ o
no_other None = refl
no_other (Some x) = refl

pub have_more : (cs : List Container) (c : Container) (loads : List Load) → HaveReservations (map reservation_of cs) loads →
    HaveReservations (map reservation_of (cs ++ c ∷ [])) (change_load c.node (reserved_load (reservation_of c)) loads)
have_more cs c loads have =
    subst (λ rs. HaveReservations rs (change_load c.node (reserved_load r) loads)) (sym (map_push reservation_of cs c))
    (all_either (Has reserved) (Has (reserved ++ r ∷ [])) c.node (reserved_load r) loads
    (λ q h e. ap (λ o. option_or o (Some r)) h ∙ ap (λ b. option_or (on reserved q.node.number) (cond b (Some r) None)) (sym (same q e)) ∙ sym (found_in q))
    (λ q h e. h ∙ sym (found_in q ∙ ap (λ b. option_or (on reserved q.node.number) (cond b (Some r) None)) (other q e) ∙ no_other (on reserved q.node.number)))
    have)
  where
    reserved : List Reservation
    reserved = map reservation_of cs

    r : Reservation
    r = reservation_of c

    found_in : (q : Load) → on (reserved ++ r ∷ []) q.node.number ≡ option_or (on reserved q.node.number) (cond (c.node == q.node.number) (Some r) None)
    found_in q = find-append (λ (x : Reservation). x.node == q.node.number) reserved (r ∷ [])

    same : (q : Load) → (q.node.number == c.node) ≡ true → (c.node == q.node.number) ≡ true
    same q e = grind (arith, nat_tests, e)

    other : (q : Load) → (q.node.number == c.node) ≡ false → (c.node == q.node.number) ≡ false
    other q e = grind (arith, nat_tests, e)
