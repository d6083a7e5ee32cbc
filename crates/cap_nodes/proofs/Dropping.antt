-- The one reservation that a node holds at most, dropped.
use Rattle.cap_nodes.proofs.Prelude.{◌≡◌, ℕ, ◌+◌, Bool, true, false, cond, List, [], ◌∷◌, map, Option, Some, None, refl, sym, ◌∙◌, ap, arith, filter, find, option_map, not, nat_lt, ◌==◌, ◌&&◌, list_any, nat_tests, Container, Reservation, AreApart, IsRising, found, none_in, filter_whole, find_mapped_at, rising_from_low, made_after, reservation_of}
use Rattle.cap_nodes.proofs.Numbered.{none_gone, not_later}
use Rattle.cap_nodes.proofs.Walked.{above, above_zero, all_above, find_above, first_kept}

-- whether a reservation is on another node
abbrev pub is_elsewhere : ℕ → Reservation → Bool
is_elsewhere n r = not (r.node == n)

-- where none is on a node, all are elsewhere
pub all_elsewhere : (n : ℕ) (rs : List Reservation) → None ≡ find (λ (r : Reservation). r.node == n) rs → filter (is_elsewhere n) rs ≡ rs
all_elsewhere n rs e = none_gone (λ (r : Reservation). r.node == n) rs e

pub others_elsewhere : (n m : ℕ) (rs : List Reservation) → n == m ≡ true → list_any (λ (s : Reservation). n == s.node) rs ≡ false → filter (is_elsewhere m) rs ≡ rs
others_elsewhere n m rs t e =
    filter_whole (is_elsewhere m) rs (λ r i. let no = none_in (λ (s : Reservation). n == s.node) rs r e i in let other : r.node == m ≡ false = grind (arith, nat_tests, no, t) in ap not other)

-- without the one on a node, by its number, all are elsewhere
taken_out : (n low : ℕ) (cs : List Container) (high : ℕ) → IsRising low (map (λ c. c.number) cs) high → AreApart (map reservation_of cs) → (c : Container) → find (λ d. d.node == n) cs ≡ Some c →
    map reservation_of (filter (λ d. not (d.number == c.number)) cs) ≡ filter (is_elsewhere n) (map reservation_of cs)
taken_out n low [] high r a c e = absurd (cc e)
taken_out n low (d ∷ ds) high r a c e = by (d.node == n) refl e (taken_out n (d.number + 1) ds high r.1 a.1 c)
  where
    num : Container → ℕ
    num x = x.number

    by : (b : Bool) → (d.node == n) ≡ b → cond b (Some d) (find (λ x. x.node == n) ds) ≡ Some c →
        (find (λ x. x.node == n) ds ≡ Some c → map reservation_of (filter (λ x. not (x.number == c.number)) ds) ≡ filter (is_elsewhere n) (map reservation_of ds)) →
        map reservation_of (filter (λ x. not (x.number == c.number)) (d ∷ ds)) ≡ cond (not b) (reservation_of d ∷ filter (is_elsewhere n) (map reservation_of ds)) (filter (is_elsewhere n) (map reservation_of ds))
    by true h k more =
        let same : c ≡ d = cc k in
        let number : (d.number == c.number) ≡ true = rw same (let own : (d.number == d.number) ≡ true = grind (arith, nat_tests) in own) in
        let rest : filter (λ x. not (x.number == c.number)) ds ≡ ds = rw same (not_later num d.number (d.number + 1) ds high r.1 (omega arith)) in
        rw (number, rest) (sym (others_elsewhere d.node n (map reservation_of ds) h a.0))
    by false h k more =
        let m = (found (λ (x : Container). x.node == n) ds c k).0 in
        let later = rising_from_low num (d.number + 1) ds high c r.1 m in
        let other : (d.number == c.number) ≡ false = grind (arith, nat_tests, later) in
        rw other (ap (λ rs. reservation_of d ∷ rs) (more k))

-- the reservations after the one on a node are those of the later containers
none_after : (n : ℕ) (rs : List Reservation) → None ≡ find (λ (r : Reservation). r.node == n) rs → made_after n rs ≡ []
none_after n [] e = refl
none_after n (r ∷ rs) e = by (r.node == n) e (none_after n rs)
  where
    by : (b : Bool) → None ≡ cond b (Some r) (find (λ (x : Reservation). x.node == n) rs) → (None ≡ find (λ (x : Reservation). x.node == n) rs → made_after n rs ≡ []) → cond b rs (made_after n rs) ≡ []
    by true h more = absurd (cc h)
    by false h more = more h

later_are : (n low : ℕ) (cs : List Container) (high : ℕ) → IsRising low (map (λ c. c.number) cs) high → (c : Container) → find (λ x. x.node == n) cs ≡ Some c → made_after n (map reservation_of cs) ≡ map reservation_of (above c.number cs)
later_are n low [] high r c e = absurd (cc e)
later_are n low (d ∷ ds) high r c e = by (d.node == n) e (later_are n (d.number + 1) ds high r.1 c)
  where
    by : (b : Bool) → cond b (Some d) (find (λ x. x.node == n) ds) ≡ Some c → (find (λ x. x.node == n) ds ≡ Some c → made_after n (map reservation_of ds) ≡ map reservation_of (above c.number ds)) →
        cond b (map reservation_of ds) (made_after n (map reservation_of ds)) ≡ map reservation_of (above c.number (d ∷ ds))
    by true h more =
        let this : d ≡ c = cc h in
        let same = ap (λ (x : Container). x.number) this in
        let none : nat_lt c.number d.number ≡ false = grind (arith, nat_tests, same) in
        rw (none, all_above c.number (d.number + 1) ds high r.1 (omega (arith, same))) refl
    by false h more =
        let m = (found (λ (x : Container). x.node == n) ds c h).0 in
        let later = rising_from_low (λ (x : Container). x.number) (d.number + 1) ds high c r.1 m in
        let none : nat_lt c.number d.number ≡ false = grind (arith, nat_tests, later) in
        rw none (more h)

module _ (n : ℕ) (cs : List Container) (high : ℕ) (r : IsRising 1 (map (λ c. c.number) cs) high) where
  pub one_dropped : AreApart (map reservation_of cs) → (c : Container) → find (λ d. d.node == n && nat_lt 0 d.number) cs ≡ Some c →
      map reservation_of (filter (λ d. not (d.number == c.number)) cs) ≡ filter (is_elsewhere n) (map reservation_of cs)
  one_dropped a c e = taken_out n 1 cs high r a c (sym (above_zero (λ (x : Reservation). x.node == n) cs high r) ∙ e)

  pub none_dropped : None ≡ find (λ d. d.node == n && nat_lt 0 d.number) cs → filter (is_elsewhere n) (map reservation_of cs) ≡ map reservation_of cs
  none_dropped e = all_elsewhere n (map reservation_of cs) (first_kept (λ (x : Reservation). x.node == n) cs high r None e)

  -- the next for a key after the one on a node
  pub none_next : (t : Reservation → Bool) → None ≡ find (λ d. d.node == n && nat_lt 0 d.number) cs → None ≡ find t (made_after n (map reservation_of cs))
  none_next t e = ap (find t) (sym (none_after n (map reservation_of cs) (first_kept (λ (x : Reservation). x.node == n) cs high r None e)))

  pub next_kept : (t : Reservation → Bool) (c : Container) → find (λ d. d.node == n && nat_lt 0 d.number) cs ≡ Some c → (o : Option Container) → o ≡ find (λ d. t (reservation_of d) && nat_lt c.number d.number) cs →
      option_map reservation_of o ≡ find t (made_after n (map reservation_of cs))
  next_kept t c e o is =
      ap (option_map reservation_of) (is ∙ find_above (λ (d : Container). t (reservation_of d)) c.number cs)
      ∙ sym (find_mapped_at reservation_of t (above c.number cs))
      ∙ ap (find t) (sym (later_are n 1 cs high r c (sym (above_zero (λ (x : Reservation). x.node == n) cs high r) ∙ e)))
