-- The live containers of an owner, which is an application or a node.
use Rattle.cap_nodes.proofs.Prelude.{◌≡◌, ℕ, ◌+◌, ◌≤◌, ◌<◌, Bool, true, false, cond, List, [], ◌∷◌, ◌++◌, map, not, sym, ap, ◌∙◌, arith, subst, refl, Some, None, filter, find, ◌==◌, ◌&&◌, ◌||◌, nat_lt, nat_tests, IsRising, Container, find_gone, find_others, none_before, IsOwnerIndex, is_of, has_pair, HasMore, HasLess}

find_pushed : (n : ℕ) (cs : List Container) (c : Container) → find (λ x. x.number == c.number) cs ≡ None →
    find (λ x. x.number == n) (cs ++ c ∷ []) ≡ cond (c.number == n) (Some c) (find (λ x. x.number == n) cs)
find_pushed n [] c fresh = refl
find_pushed n (d ∷ cs) c fresh = by (d.number == c.number) (d.number == n) (c.number == n) refl refl refl fresh (find_pushed n cs c)
  where
    by : (b e f : Bool) → (d.number == c.number) ≡ b → (d.number == n) ≡ e → (c.number == n) ≡ f → cond b (Some d) (find (λ x. x.number == c.number) cs) ≡ None →
        (find (λ x. x.number == c.number) cs ≡ None → find (λ x. x.number == n) (cs ++ c ∷ []) ≡ cond (c.number == n) (Some c) (find (λ x. x.number == n) cs)) →
        cond e (Some d) (find (λ x. x.number == n) (cs ++ c ∷ [])) ≡ cond f (Some c) (cond e (Some d) (find (λ x. x.number == n) cs))
    by true e f h i j new later = absurd (cc new)
    by false true true h i j new later = absurd (grind (arith, nat_tests, h, i, j))
    by false true false h i j new later = refl
    by false false f h i j new later = later new ∙ ap (λ t. cond t (Some c) (find (λ x. x.number == n) cs)) j

find_left : (n m : ℕ) (cs : List Container) → find (λ x. x.number == m) (filter (λ x. not (x.number == n)) cs) ≡ cond (n == m) None (find (λ x. x.number == m) cs)
find_left n m cs = by (n == m) refl
  where
    by : (b : Bool) → (n == m) ≡ b → find (λ x. x.number == m) (filter (λ x. not (x.number == n)) cs) ≡ cond b None (find (λ x. x.number == m) cs)
    by true e = find_gone (λ (x : Container). x.number) n m e cs
    by false e = find_others (λ (x : Container). x.number) n m e cs

module _ (key : Container → ℕ) (live : List Container) (old : List (ℕ × ℕ)) (index : IsOwnerIndex key live old) where
  -- one more of the next number
  pub index_pushed : (new : List (ℕ × ℕ)) (c : Container) → find (λ x. x.number == c.number) live ≡ None → HasMore (key c) c.number old new →
      IsOwnerIndex key (live ++ c ∷ []) new
  index_pushed new c fresh is o n =
      is o n ∙ ap (λ b. key c == o && c.number == n || b) (index o n)
      ∙ by (c.number == n) refl
      ∙ ap (λ x. is_of key x o) (sym (find_pushed n live c fresh))
    where
      by : (b : Bool) → (c.number == n) ≡ b → (key c == o && b || is_of key (find (λ x. x.number == n) live) o) ≡ is_of key (cond b (Some c) (find (λ x. x.number == n) live)) o
      by true e =
          let same : c.number ≡ n = grind (arith, nat_tests, e) in
          let gone : find (λ x. x.number == n) live ≡ None = subst (λ m. find (λ x. x.number == m) live ≡ None) same fresh in
          rw gone (yes (key c == o))
        where
          yes : (t : Bool) → (t && true || false) ≡ t
          yes true = refl
          yes false = refl
      by false e = no (key c == o)
        where
          no : (t : Bool) → (t && false || is_of key (find (λ x. x.number == n) live) o) ≡ is_of key (find (λ x. x.number == n) live) o
          no true = refl
          no false = refl

  -- one that is taken back
  pub index_back : (more new : List (ℕ × ℕ)) (a m : ℕ) → find (λ x. x.number == m) live ≡ None → HasMore a m old more →
      HasLess a m more new → IsOwnerIndex key live new
  index_back more new a m fresh is back o n = back o n ∙ ap (λ b. not (a == o && m == n) && b) (is o n) ∙ by (a == o) (m == n) refl ∙ index o n
    where
      by : (b e : Bool) → (m == n) ≡ e → (not (b && e) && (b && e || has_pair old o n)) ≡ has_pair old o n
      by true true h =
          let same : m ≡ n = grind (arith, nat_tests, h) in
          sym (index o n ∙ ap (λ x. is_of key x o) (subst (λ k. find (λ x. x.number == k) live ≡ None) same fresh))
      by true false h = refl
      by false e h = refl

  -- without one
  pub index_left : (new : List (ℕ × ℕ)) (m : ℕ) (c : Container) → find (λ x. x.number == m) live ≡ Some c → HasLess (key c) m old new →
      IsOwnerIndex key (filter (λ x. not (x.number == m)) live) new
  index_left new m c there is o n =
      is o n ∙ ap (λ b. not (key c == o && m == n) && b) (index o n) ∙ by (key c == o) (m == n) refl refl ∙ ap (λ x. is_of key x o) (sym (find_left m n live))
    where
      by : (b e : Bool) → (key c == o) ≡ b → (m == n) ≡ e → (not (b && e) && is_of key (find (λ x. x.number == n) live) o) ≡ is_of key (cond e None (find (λ x. x.number == n) live)) o
      by true true h k = refl
      by false true h k =
          let same : m ≡ n = grind (arith, nat_tests, k) in
          let this : find (λ x. x.number == n) live ≡ Some c = subst (λ i. find (λ x. x.number == i) live ≡ Some c) same there in
          rw this h
      by true false h k = refl
      by false false h k = refl

module _ (key : Container → ℕ) (owner after : ℕ) where
  -- what an owner has later it has
  later : (c : Container) (cs : List Container) (high m : ℕ) → IsRising (c.number + 1) (map (λ x. x.number) cs) high → is_of key (find (λ x. x.number == m) cs) owner ≡ true →
      is_of key (find (λ x. x.number == m) (c ∷ cs)) owner ≡ true
  later c cs high m r there = by (c.number == m) refl
    where
      by : (b : Bool) → (c.number == m) ≡ b → is_of key (cond b (Some c) (find (λ x. x.number == m) cs)) owner ≡ true
      by true e =
          let none = none_before (λ (z : Container). z.number) m (c.number + 1) cs high r (grind (arith, nat_tests, e)) in
          absurd (cc (sym (ap (λ x. is_of key x owner) none) ∙ there))
      by false e = there

  -- the first of an owner above a number is the one of the least number
  first_is : (n low : ℕ) (cs : List Container) (high : ℕ) → IsRising low (map (λ x. x.number) cs) high → after < n → is_of key (find (λ x. x.number == n) cs) owner ≡ true →
      ((m : ℕ) → after < m → is_of key (find (λ x. x.number == m) cs) owner ≡ true → n ≤ m) → find (λ x. x.number == n) cs ≡ find (λ x. key x == owner && nat_lt after x.number) cs
  first_is n low [] high r above there least = refl
  first_is n low (c ∷ cs) high r above there least =
      by (c.number == n) (key c == owner) (nat_lt after c.number) refl refl refl there (λ h. first_is n (c.number + 1) cs high r.1 above h (λ m k t. least m k (later c cs high m r.1 t)))
    where
      this : (key c == owner) ≡ true → is_of key (find (λ x. x.number == c.number) (c ∷ cs)) owner ≡ true
      this h = let same : (c.number == c.number) ≡ true = grind (arith, nat_tests) in rw same h

      by : (b e f : Bool) → (c.number == n) ≡ b → (key c == owner) ≡ e → nat_lt after c.number ≡ f → is_of key (cond b (Some c) (find (λ x. x.number == n) cs)) owner ≡ true →
          (is_of key (find (λ x. x.number == n) cs) owner ≡ true → find (λ x. x.number == n) cs ≡ find (λ x. key x == owner && nat_lt after x.number) cs) →
          cond b (Some c) (find (λ x. x.number == n) cs) ≡ cond (e && f) (Some c) (find (λ x. key x == owner && nat_lt after x.number) cs)
      by true true true h i j t more = refl
      by true true false h i j t more = absurd (grind (arith, nat_tests, h, j, above))
      by true false f h i j t more = absurd (cc (sym i ∙ t))
      by false true true h i j t more =
          let low_enough : n ≤ c.number = least c.number (grind (arith, nat_tests, j)) (this i) in
          let none = none_before (λ (z : Container). z.number) n (c.number + 1) cs high r.1 (omega (arith, low_enough)) in
          absurd (cc (sym (ap (λ x. is_of key x owner) none) ∙ t))
      by false true false h i j t more = more t
      by false false f h i j t more = more t

  none_is : (low : ℕ) (cs : List Container) (high : ℕ) → IsRising low (map (λ x. x.number) cs) high → ((m : ℕ) → after < m → is_of key (find (λ x. x.number == m) cs) owner ≡ false) →
      None ≡ find (λ x. key x == owner && nat_lt after x.number) cs
  none_is low [] high r none = refl
  none_is low (c ∷ cs) high r none = by (key c == owner) (nat_lt after c.number) refl refl (none_is (c.number + 1) cs high r.1 rest)
    where
      rest : (m : ℕ) → after < m → is_of key (find (λ x. x.number == m) cs) owner ≡ false
      rest m h = split (is_of key (find (λ x. x.number == m) cs) owner) refl
        where
          split : (b : Bool) → is_of key (find (λ x. x.number == m) cs) owner ≡ b → b ≡ false
          split true t = sym (later c cs high m r.1 t) ∙ none m h
          split false t = refl

      by : (e f : Bool) → (key c == owner) ≡ e → nat_lt after c.number ≡ f → None ≡ find (λ x. key x == owner && nat_lt after x.number) cs →
          None ≡ cond (e && f) (Some c) (find (λ x. key x == owner && nat_lt after x.number) cs)
      by true true i j more =
          let same : (c.number == c.number) ≡ true = grind (arith, nat_tests) in
          let this : is_of key (find (λ x. x.number == c.number) (c ∷ cs)) owner ≡ true = rw same i in
          absurd (cc (sym this ∙ none c.number (grind (arith, nat_tests, j))))
      by true false i j more = more
      by false f i j more = more

  module _ (live : List Container) (pairs : List (ℕ × ℕ)) (next : ℕ) (index : IsOwnerIndex key live pairs) (rising : IsRising 1 (map (λ c. c.number) live) next) where
    pub first_of : (n : ℕ) → has_pair pairs owner n ≡ true → after < n → ((m : ℕ) → after < m → has_pair pairs owner m ≡ true → n ≤ m) →
        find (λ c. c.number == n) live ≡ find (λ c. key c == owner && nat_lt after c.number) live
    first_of n there above least = first_is n 1 live next rising above (sym (index owner n) ∙ there) (λ m h t. least m h (index owner m ∙ t))

    pub none_of : ((m : ℕ) → after < m → has_pair pairs owner m ≡ false) → None ≡ find (λ c. key c == owner && nat_lt after c.number) live
    none_of none = none_is 1 live next rising (λ m h. sym (index owner m) ∙ none m h)
