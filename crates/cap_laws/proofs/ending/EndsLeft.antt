-- Live containers end one after the other: what is left to end, and that all have ended when nothing is left.
use Rattle.cap_laws.proofs.Prelude.{◌≡◌, ℕ, ◌+◌, ◌≤◌, ◌<◌, Bool, true, false, List, [], ◌∷◌, length, get_or, drop, refl, sym, ◌∙◌, ap, inl, inr, arith, Option, Some, None, cond, not, ◌==◌, ◌&&◌, nat_lt, filter, find, if◌then◌else◌, cons_option, cases_lt, nat_tests, at_drop_more, drop_all, Cause, live_max, Flat, Container, IsRising, is_among, named_among, after_ends, HasDistinctNumbers, container_numbers, filter_twice, length-kept, found, found_by_number, one_completed}
use Rattle.cap_laws.proofs.ending.EndsInOrder.{ends_none, ends_then, find_among_some, first_passes, kept_if_passes, none_pass}

-- no container has the number 0
pub first_above : (t : Container → Bool) (low : ℕ) (live : List Container) (high : ℕ) → 1 ≤ low → IsRising low (container_numbers live) high →
    find (λ c. t c && nat_lt 0 c.number) live ≡ find t live
first_above t low [] high l r = refl
first_above t low (c ∷ live) high l r = by (t c) (first_above t (c.number + 1) live high (omega arith) r.1)
  where
    above : nat_lt 0 c.number ≡ true
    above = grind (arith, nat_tests, l, r.0)

    by : (b : Bool) → find (λ d. t d && nat_lt 0 d.number) live ≡ find t live → cond (b && nat_lt 0 c.number) (Some c) (find (λ d. t d && nat_lt 0 d.number) live) ≡ cond b (Some c) (find t live)
    by true i = ap (λ b. cond b (Some c) (find (λ d. t d && nat_lt 0 d.number) live)) above
    by false i = i

module _ {K : ℕ} (cause : Cause) (t : Container → Bool) (old : Flat K) where
  -- so many of those that pass have ended, and once those that are left have ended, all have
  pub record AreEnding (now : Flat K) (ended : ℕ) : Type 0 where
    pub ends : after_ends cause (filter t now.nodes.live) now ≡ after_ends cause (filter t old.nodes.live) old
    pub count : ended + length (filter t now.nodes.live) ≡ length (filter t old.nodes.live)
    pub few : 0 < ended → length (filter t old.nodes.live) ≤ live_max

  pub none_ended : AreEnding old 0
  none_ended = record { ends = refl; count = omega arith; few = λ h. absurd (omega (arith, h)) }

  module _ (now : Flat K) (ended : ℕ) (h : AreEnding now ended) (rising : HasDistinctNumbers now) (few : length now.nodes.live ≤ live_max) (c : Container) (first : find t now.nodes.live ≡ Some c) where
    -- the first that is left is found by its number
    pub first_found : find (λ d. d.number == c.number) now.nodes.live ≡ Some c
    first_found = found_by_number (λ (x : Container). x.number) 1 now.nodes.live now.nodes.next_container c rising (found t now.nodes.live c first).0

    few_in_all : length (filter t old.nodes.live) ≤ live_max
    few_in_all =
        let counted = h.count in
        let less = length-kept t now.nodes.live in
        elim (cases_lt 0 ended) [
          | inl some ↦ h.few some
          | inr none ↦ omega (arith, counted, less, none, few)
        ]

    module _ (new : Flat K) (is : new ≡ after_ends cause (c ∷ []) now) where
      others_left : filter t now.nodes.live ≡ c ∷ filter t new.nodes.live
      others_left = first_passes t 1 now.nodes.live now.nodes.next_container c rising first ∙ ap (λ (x : Flat K). c ∷ filter t x.nodes.live) (sym is)

      pub fewer_left : length (filter t now.nodes.live) ≡ length (filter t new.nodes.live) + 1
      fewer_left = let split = ap length others_left in omega (arith, split)

      pub few_ended : ended + 1 ≤ live_max
      few_ended = let counted = h.count in let less = fewer_left in let few = few_in_all in omega (arith, counted, less, few)

      -- and ends
      pub one_ended : AreEnding new (ended + 1)
      one_ended =
          let rest = filter t new.nodes.live in
          let counted = h.count in
          let less = fewer_left in
          record {
            ends = ap (after_ends cause rest) is ∙ sym (ends_then cause (c ∷ []) rest now) ∙ ap (λ cs. after_ends cause cs now) (sym others_left) ∙ h.ends;
            count = omega (arith, counted, less);
            few = λ _. few_in_all;
          }

  -- where none is left, all have ended
  pub all_ended : (now : Flat K) (ended : ℕ) → AreEnding now ended → find t now.nodes.live ≡ None → (now ≡ after_ends cause (filter t old.nodes.live) old) × (ended ≡ length (filter t old.nodes.live))
  all_ended now ended h e =
      let none = none_pass t now.nodes.live e in
      let no_more = ap length none in
      let counted = h.count in
      (sym (ap (λ cs. after_ends cause cs now) none ∙ ends_none cause now) ∙ h.ends, omega (arith, counted, no_more))

-- the containers that a number and then others name
none_named : (n : ℕ) (xs : List Container) → find (λ c. c.number == n) xs ≡ None → filter (λ c. not (c.number == n)) xs ≡ xs
none_named n [] e = refl
none_named n (x ∷ xs) e = by (x.number == n) e (none_named n xs)
  where
    by : (b : Bool) → cond b (Some x) (find (λ c. c.number == n) xs) ≡ None → (find (λ c. c.number == n) xs ≡ None → filter (λ c. not (c.number == n)) xs ≡ xs) →
        cond (not b) (x ∷ filter (λ c. not (c.number == n)) xs) (filter (λ c. not (c.number == n)) xs) ≡ x ∷ xs
    by true f i = absurd (cc f)
    by false f i = ap (λ ys. x ∷ ys) (i f)

swap_tests : (a b : Bool) → cond a b false ≡ cond b a false
swap_tests true true = refl
swap_tests true false = refl
swap_tests false true = refl
swap_tests false false = refl

without_number : (t : Container → Bool) (c : Container) (live : List Container) →
    filter (λ d. not (d.number == c.number)) (filter t live) ≡ filter t (filter (λ d. not (is_among (c ∷ []) d)) live)
without_number t c live =
    filter_twice (λ d. not (d.number == c.number)) t (λ d. cond (t d) (not (d.number == c.number)) false) live (λ d. refl)
    ∙ sym (filter_twice t (λ d. not (d.number == c.number)) (λ d. cond (t d) (not (d.number == c.number)) false) live (λ d. swap_tests (t d) (not (d.number == c.number))))
    ∙ ap (filter t) (one_completed c live)

module _ {K : ℕ} (cause : Cause) (t : Container → Bool) (old : Flat K) (numbers : List ℕ) where
  abbrev named : List ℕ → Flat K → List Container
  named ns cluster = named_among ns (filter t cluster.nodes.live)

  -- so many of the first numbers name none, and once those that the others name have ended, all have that are named
  pub record AreNamed (now : Flat K) (ignored i : ℕ) : Type 0 where
    pub ends : after_ends cause (named (drop i numbers) now) now ≡ after_ends cause (named numbers old) old
    pub count : ignored + length (named numbers old) ≡ i + length (named (drop i numbers) now)
    pub few : ignored ≤ i

  pub none_yet : AreNamed old 0 0
  none_yet = record { ends = refl; count = omega arith; few = omega arith }

  module _ (now : Flat K) (ignored i d : ℕ) (h : AreNamed now ignored i) (rising : HasDistinctNumbers now) (more : i < length numbers) where
    abbrev number : ℕ
    number = get_or numbers i d

    abbrev rest : List ℕ
    rest = drop (i + 1) numbers

    next_named : (o : Option Container) → find (λ c. c.number == number) now.nodes.live ≡ o → (p : Option Container) → kept_if_passes t o ≡ p →
        named (drop i numbers) now ≡ cons_option p (named_among rest (filter (λ c. not (c.number == number)) (filter t now.nodes.live)))
    next_named o e p k =
        at_drop_more (λ ns. named ns now) numbers i d more
        ∙ ap (λ q. cons_option q (named_among rest (filter (λ c. not (c.number == number)) (filter t now.nodes.live))))
        (find_among_some t number 1 now.nodes.live now.nodes.next_container rising ∙ ap (kept_if_passes t) e ∙ k)

    -- the next number names a container that passes, which ends
    pub one_named : (c : Container) → find (λ c. c.number == number) now.nodes.live ≡ Some c → t c ≡ true → (new : Flat K) → new ≡ after_ends cause (c ∷ []) now → AreNamed new ignored (i + 1)
    one_named c e passes new is =
        let its : c.number ≡ number = grind (arith, nat_tests, (found (λ (x : Container). x.number == number) now.nodes.live c e).1) in
        let left : filter (λ x. not (x.number == number)) (filter t now.nodes.live) ≡ filter t new.nodes.live =
        ap (λ n. filter (λ (x : Container). not (x.number == n)) (filter t now.nodes.live)) (sym its) ∙ without_number t c now.nodes.live ∙ ap (λ (x : Flat K). filter t x.nodes.live) (sym is) in
        let split : named (drop i numbers) now ≡ c ∷ named rest new =
        next_named (Some c) e (Some c) (ap (λ b. if b then Some c else None) passes) ∙ ap (λ cs. c ∷ named_among rest cs) left in
        let counted = h.count in
        let one = ap length split in
        record {
          ends = ap (after_ends cause (named rest new)) is ∙ sym (ends_then cause (c ∷ []) (named rest new) now) ∙ ap (λ cs. after_ends cause cs now) (sym split) ∙ h.ends;
          count = omega (arith, counted, one);
          few = omega (arith, h.few);
        }

    none_passed : (o : Option Container) → find (λ c. c.number == number) now.nodes.live ≡ o → kept_if_passes t o ≡ None → AreNamed now (ignored + 1) (i + 1)
    none_passed o e k =
        let nobody : find (λ c. c.number == number) (filter t now.nodes.live) ≡ None = find_among_some t number 1 now.nodes.live now.nodes.next_container rising ∙ ap (kept_if_passes t) e ∙ k in
        let same : named (drop i numbers) now ≡ named rest now = next_named o e None k ∙ ap (named_among rest) (none_named number (filter t now.nodes.live) nobody) in
        let counted = h.count in
        let one = ap length same in
        record {
          ends = ap (λ cs. after_ends cause cs now) (sym same) ∙ h.ends;
          count = omega (arith, counted, one);
          few = omega (arith, h.few);
        }

    -- or it names none, or one that doesn't pass
    pub none_there : find (λ c. c.number == number) now.nodes.live ≡ None → AreNamed now (ignored + 1) (i + 1)
    none_there e = none_passed None e refl

    pub other_there : (c : Container) → find (λ c. c.number == number) now.nodes.live ≡ Some c → t c ≡ false → AreNamed now (ignored + 1) (i + 1)
    other_there c e other = none_passed (Some c) e (ap (λ b. if b then Some c else None) other)

  -- after the last number all have ended that are named
  pub all_named : (now : Flat K) (ignored i : ℕ) → AreNamed now ignored i → length numbers ≤ i → (now ≡ after_ends cause (named numbers old) old) × (ignored + length (named numbers old) ≡ i)
  all_named now ignored i h last =
      let none : named (drop i numbers) now ≡ [] = ap (λ ns. named ns now) (drop_all i numbers last) in
      let no_more = ap length none in
      let counted = h.count in
      (sym (ap (λ cs. after_ends cause cs now) none ∙ ends_none cause now) ∙ h.ends, omega (arith, counted, no_more))
