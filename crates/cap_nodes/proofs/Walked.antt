-- The containers of an application, one after the other.
use Rattle.cap_nodes.proofs.Prelude.{◌≡◌, ℕ, zero, suc, ◌+◌, ◌-◌, ◌<◌, Bool, true, false, cond, List, [], ◌∷◌, map, length, refl, sym, ◌∙◌, ap, subst, arith, Option, Some, None, filter, find, option_map, ◌==◌, ◌&&◌, nat_lt, slice_get, and-true, and-false, slice_get-map, length-map, nat_tests, Key, same_key, IsRising, Container, Reservation, is_for, found, filter_mapped, filter_whole, find_mapped_at, rising_from_low, rising_to_high, is_kept_for, reservation_of}

-- those above a number
abbrev pub above : ℕ → List Container → List Container
above after cs = filter (λ c. nat_lt after c.number) cs

pub all_above : (after low : ℕ) (cs : List Container) (high : ℕ) → IsRising low (map (λ c. c.number) cs) high → after < low → above after cs ≡ cs
all_above after low cs high r h =
    filter_whole (λ (c : Container). nat_lt after c.number) cs (λ c m. let at = rising_from_low (λ (x : Container). x.number) low cs high c r m in grind (arith, nat_tests, at, h))

-- those that pass a test
module _ (t : Container → Bool) where
  -- those of them above a number
  abbrev pub rest : ℕ → List Container → List Container
  rest after cs = filter t (above after cs)

  -- all of them are above 0
  pub rest_of_all : (cs : List Container) (high : ℕ) → IsRising 1 (map (λ c. c.number) cs) high → rest 0 cs ≡ filter t cs
  rest_of_all cs high r = ap (filter t) (all_above 0 1 cs high r (omega arith))

  pub find_above : (after : ℕ) (cs : List Container) → find (λ c. t c && nat_lt after c.number) cs ≡ find t (above after cs)
  find_above after [] = refl
  find_above after (c ∷ cs) = by (nat_lt after c.number) (find_above after cs)
    where
      by : (f : Bool) → find (λ d. t d && nat_lt after d.number) cs ≡ find t (above after cs) → cond (t c && f) (Some c) (find (λ d. t d && nat_lt after d.number) cs) ≡ find t (cond f (c ∷ above after cs) (above after cs))
      by true more = λ i. cond (and-true (t c) i) (Some c) (more i)
      by false more = λ i. cond (and-false (t c) i) (Some c) (more i)

  -- where none is found above a number, none is left
  pub no_more : (after : ℕ) (cs : List Container) → find (λ c. t c && nat_lt after c.number) cs ≡ None → rest after cs ≡ []
  no_more after cs e = none_left (above after cs) (sym (find_above after cs) ∙ e)
    where
      none_left : (xs : List Container) → find t xs ≡ None → filter t xs ≡ []
      none_left [] h = refl
      none_left (x ∷ xs) h = by (t x) h (none_left xs)
        where
          by : (b : Bool) → cond b (Some x) (find t xs) ≡ None → (find t xs ≡ None → filter t xs ≡ []) → cond b (x ∷ filter t xs) (filter t xs) ≡ []
          by true k more = absurd (cc k)
          by false k more = more k

  module _ (high : ℕ) (c : Container) (number : ℕ) (is : number ≡ c.number) where
    first_left : (after low : ℕ) (cs : List Container) → IsRising low (map (λ d. d.number) cs) high → find (λ d. t d && nat_lt after d.number) cs ≡ Some c → rest after cs ≡ c ∷ rest c.number cs
    first_left after low [] r e = absurd (cc e)
    first_left after low (d ∷ ds) r e = by (t d) (nat_lt after d.number) refl refl e (first_left after (d.number + 1) ds r.1)
      where
        later : (find (λ x. t x && nat_lt after x.number) ds ≡ Some c → rest after ds ≡ c ∷ rest c.number ds) → find (λ x. t x && nat_lt after x.number) ds ≡ Some c → rest after ds ≡ c ∷ rest c.number (d ∷ ds)
        later more n =
            let m = (found (λ (x : Container). t x && nat_lt after x.number) ds c n).0 in
            let high_enough = rising_from_low (λ (x : Container). x.number) (d.number + 1) ds high c r.1 m in
            let none : nat_lt c.number d.number ≡ false = grind (arith, nat_tests, high_enough) in
            rw none (more n)

        by : (a f : Bool) → t d ≡ a → nat_lt after d.number ≡ f → cond (a && f) (Some d) (find (λ x. t x && nat_lt after x.number) ds) ≡ Some c →
            (find (λ x. t x && nat_lt after x.number) ds ≡ Some c → rest after ds ≡ c ∷ rest c.number ds) → filter t (cond f (d ∷ above after ds) (above after ds)) ≡ c ∷ rest c.number (d ∷ ds)
        by true true h k n more =
            let none : nat_lt d.number d.number ≡ false = grind (arith, nat_tests) in
            let below : after < d.number + 1 = grind (arith, nat_tests, k) in
            let here : filter t (d ∷ above after ds) ≡ d ∷ rest d.number (d ∷ ds) = rw (none, h, all_above after (d.number + 1) ds high r.1 below, all_above d.number (d.number + 1) ds high r.1 (omega arith)) refl in
            subst (λ (x : Container). filter t (d ∷ above after ds) ≡ x ∷ rest x.number (d ∷ ds)) (cc n) here
        by true false h k n more = later more n
        by false true h k n more = rw h (later more n)
        by false false h k n more = later more n

    -- the next one is the first that is left; it is above the number, and below the next
    module _ (after : ℕ) (cs : List Container) (r : IsRising 1 (map (λ d. d.number) cs) high) (e : find (λ d. t d && nat_lt after d.number) cs ≡ Some c) where
      pub one_more : rest after cs ≡ c ∷ rest number cs
      one_more = rw is (first_left after 1 cs r e)

      pub next_within : (after < number) × (number < high)
      next_within =
          let f = found (λ (x : Container). t x && nat_lt after x.number) cs c e in
          (by (t c) (nat_lt after c.number) refl f.1, subst (λ n. n < high) (sym is) (rising_to_high (λ (x : Container). x.number) 1 cs high c r f.0))
        where
          by : (a b : Bool) → nat_lt after c.number ≡ b → a && b ≡ true → after < number
          by true true h k = grind (arith, nat_tests, h, is)
          by true false h k = absurd (cc k)
          by false b h k = absurd (cc k)

-- the next for a key of an application, where the next of the application is known
find_both : {A : Type 0} (s k : A → Bool) (xs : List A) → find (λ x. s x && k x) xs ≡ find k (filter s xs)
find_both s k [] = refl
find_both s k (x ∷ xs) = by (s x) (find_both s k xs)
  where
    by : (b : Bool) → find (λ y. s y && k y) xs ≡ find k (filter s xs) → cond (b && k x) (Some x) (find (λ y. s y && k y) xs) ≡ find k (cond b (x ∷ filter s xs) (filter s xs))
    by true more = ap (λ o. cond (k x) (Some x) o) more
    by false more = more

module _ (app : ℕ) (key : Key) (after : ℕ) (cs : List Container) where
  kept_above : (n : ℕ) → find (λ c. is_kept_for app key c && nat_lt n c.number) cs ≡ find (λ c. same_key c.key key) (rest (λ c. c.app == app) n cs)
  kept_above n = find_above (is_kept_for app key) n cs ∙ find_both (λ (c : Container). c.app == app) (λ c. same_key c.key key) (above n cs)

  pub none_for : find (λ c. c.app == app && nat_lt after c.number) cs ≡ None → find (λ c. is_kept_for app key c && nat_lt after c.number) cs ≡ None
  none_for e = kept_above after ∙ ap (find (λ (c : Container). same_key c.key key)) (no_more (λ (c : Container). c.app == app) after cs e)

  module _ (high : ℕ) (r : IsRising 1 (map (λ c. c.number) cs) high) (c : Container) (e : find (λ c. c.app == app && nat_lt after c.number) cs ≡ Some c) (b : Bool) (same : same_key c.key key ≡ b) where
    pub next_for : find (λ c. is_kept_for app key c && nat_lt after c.number) cs ≡ cond b (Some c) (find (λ d. is_kept_for app key d && nat_lt c.number d.number) cs)
    next_for =
        kept_above after
        ∙ ap (find (λ (d : Container). same_key d.key key)) (one_more (λ (d : Container). d.app == app) high c c.number refl after cs r e)
        ∙ (λ i. cond (same i) (Some c) (sym (kept_above c.number) i))

-- the reservations for a key are the containers for it
pub kept_are : (app : ℕ) (key : Key) (cs : List Container) → filter (is_for app key) (map reservation_of cs) ≡ map reservation_of (filter (is_kept_for app key) cs)
kept_are app key cs = filter_mapped (is_for app key) reservation_of cs

pub kept_count : (app : ℕ) (key : Key) (cs : List Container) → length (filter (is_for app key) (map reservation_of cs)) ≡ length (filter (is_kept_for app key) cs)
kept_count app key cs = ap length (kept_are app key cs) ∙ length-map (filter (is_kept_for app key) cs) reservation_of

pub kept_at : (app : ℕ) (key : Key) (n : ℕ) (cs : List Container) → slice_get (filter (is_for app key) (map reservation_of cs)) n ≡ option_map reservation_of (slice_get (filter (is_kept_for app key) cs) n)
kept_at app key n cs = ap (λ rs. slice_get rs n) (kept_are app key cs) ∙ slice_get-map reservation_of (filter (is_kept_for app key) cs) n

-- what a search above 0 finds
module _ (t : Reservation → Bool) (cs : List Container) (high : ℕ) (r : IsRising 1 (map (λ c. c.number) cs) high) where
  pub above_zero : find (λ c. t (reservation_of c) && nat_lt 0 c.number) cs ≡ find (λ c. t (reservation_of c)) cs
  above_zero = find_above (λ (c : Container). t (reservation_of c)) 0 cs ∙ ap (find (λ (c : Container). t (reservation_of c))) (all_above 0 1 cs high r (omega arith))

  pub first_kept : (o : Option Container) → o ≡ find (λ c. t (reservation_of c) && nat_lt 0 c.number) cs → option_map reservation_of o ≡ find t (map reservation_of cs)
  first_kept o e = ap (option_map reservation_of) (e ∙ above_zero) ∙ sym (find_mapped_at reservation_of t cs)

-- the item at an index, where the first is known
pub first_read : {A : Type 0} (xs ys : List A) (x : A) (n : ℕ) → xs ≡ x ∷ ys → n ≡ 0 → slice_get xs n ≡ Some x
first_read xs ys x n e zero_is = λ i. slice_get (e i) (zero_is i)

pub later_read : {A : Type 0} (xs ys : List A) (x : A) (n : ℕ) → xs ≡ x ∷ ys → (n ≡ 0 → ⊥) → slice_get xs n ≡ slice_get ys (n - 1)
later_read xs ys x zero e some = absurd (some refl)
later_read xs ys x (suc n) e some = let same : suc n - 1 ≡ n = omega arith in ap (λ zs. slice_get zs (suc n)) e ∙ ap (λ k. slice_get ys k) (sym same)
