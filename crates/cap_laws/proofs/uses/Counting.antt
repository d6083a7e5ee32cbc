-- Counting applications where one comes or goes, and what is left where none of those that count holds anything.
use Rattle.cap_laws.proofs.Prelude.{◌≡◌, ℕ, ◌+◌, ◌<◌, ◌≤◌, Bool, true, false, List, [], ◌∷◌, ◌++◌, get_or, map, refl, sym, ◌∙◌, ap, inl, inr, arith, Option, Some, None, cond, not, ◌==◌, find, filter, if◌then◌else◌, nat_tests, ext_get_or, get_or-replicate, length-replicate, amount, zeros, Flat, App, Container, Reservation, app_at, IsRising, IsIn, found, count_append, count_cons, sum_of_zeros, one_where, filter_whole, rising_from_low, counts, counted, use_amount}
use Rattle.cap_laws.proofs.calls.Lessening.{IsSite}
use Rattle.cap_laws.proofs.uses.Tallies.{Test, count_of, used_by, length_used}

-- one more application
pub count_entered : (test : Test) (active : List App) (a : App) → count_of test (active ++ a ∷ []) ≡ count_of test active + one_where (test a.leaf a.user)
count_entered test active a = count_append (λ (x : App). test x.leaf x.user) active (a ∷ []) ∙ ap (λ n. count_of test active + n) (last (test a.leaf a.user) ∙ refl)
  where
    last : (b : Bool) → count_of test (a ∷ []) ≡ one_where (test a.leaf a.user)
    last b = count_cons (λ (x : App). test x.leaf x.user) a [] ∙ omega arith

-- one application less
pub count_without : (test : Test) (low : ℕ) (active : List App) (high n : ℕ) (a : App) → IsRising low (map (λ x. x.number) active) high → find (λ x. x.number == n) active ≡ Some a →
    count_of test active ≡ count_of test (filter (λ x. not (x.number == n)) active) + one_where (test a.leaf a.user)
count_without test low [] high n a r e = absurd (cc e)
count_without test low (x ∷ active) high n a r e = by (x.number == n) refl e (count_without test (x.number + 1) active high n a r.1)
  where
    pass : App → Bool
    pass y = test y.leaf y.user

    by : (b : Bool) → x.number == n ≡ b → cond b (Some x) (find (λ y. y.number == n) active) ≡ Some a →
        (find (λ y. y.number == n) active ≡ Some a → count_of test active ≡ count_of test (filter (λ y. not (y.number == n)) active) + one_where (test a.leaf a.user)) →
        count_of test (x ∷ active) ≡ count_of test (cond (not b) (x ∷ filter (λ y. not (y.number == n)) active) (filter (λ y. not (y.number == n)) active)) + one_where (test a.leaf a.user)
    by true h f rest =
        let same : x ≡ a = cc f in
        let weight : one_where (test x.leaf x.user) ≡ one_where (test a.leaf a.user) = ap (λ (y : App). one_where (test y.leaf y.user)) same in
        let kept : filter (λ (y : App). not (y.number == n)) active ≡ active =
        filter_whole (λ (y : App). not (y.number == n)) active
        (λ y m. let above = rising_from_low (λ (z : App). z.number) (x.number + 1) active high y r.1 m in let other : y.number == n ≡ false = grind (arith, nat_tests, h, above) in ap not other) in
        let count : count_of test (filter (λ (y : App). not (y.number == n)) active) ≡ count_of test active = ap (count_of test) kept in
        omega (arith, count_cons (λ (y : App). test y.leaf y.user) x active, weight, count)
    by false h f rest =
        omega (arith, rest f, count_cons (λ (y : App). test y.leaf y.user) x active, count_cons (λ (y : App). test y.leaf y.user) x (filter (λ (y : App). not (y.number == n)) active))

-- some are counted where one counts
pub count_positive : (test : Test) (active : List App) (a : App) → IsIn a active → test a.leaf a.user ≡ true → 1 ≤ count_of test active
count_positive test [] a m t = absurd m
count_positive test (x ∷ active) a (inl e) t =
    let weight : one_where (test x.leaf x.user) ≡ 1 = ap (λ (y : App). one_where (test y.leaf y.user)) e ∙ ap one_where t in
    omega (arith, weight, count_cons (λ (y : App). test y.leaf y.user) x active)
count_positive test (x ∷ active) a (inr m) t = omega (arith, count_positive test active a m t, count_cons (λ (y : App). test y.leaf y.user) x active)

-- of applications of which one counts, each other one does not
pub only_one : (test : Test) (low : ℕ) (active : List App) (high n : ℕ) (a : App) → IsRising low (map (λ x. x.number) active) high → find (λ x. x.number == n) active ≡ Some a → test a.leaf a.user ≡ true → count_of test active ≡ 1 →
    (m : ℕ) → m == n ≡ false → counts test (find (λ x. x.number == m) active) ≡ false
only_one test low active high n a r e t one m other = by (find (λ (x : App). x.number == m) active) refl
  where
    left : List App
    left = filter (λ (x : App). not (x.number == n)) active

    by : (o : Option App) → find (λ x. x.number == m) active ≡ o → counts test o ≡ false
    by None f = refl
    by (Some b) f = test_is (test b.leaf b.user) refl
      where
        test_is : (c : Bool) → test b.leaf b.user ≡ c → c ≡ false
        test_is false h = refl
        test_is true h =
            let at = found (λ (x : App). x.number == m) active b f in
            let number = at.1 in
            let stays : not (b.number == n) ≡ true = (let no : b.number == n ≡ false = grind (arith, nat_tests, number, other) in ap not no) in
            let more = count_positive test left b (Rattle.cap_base.proofs.lists.Members.in_filter (λ (x : App). not (x.number == n)) active b at.0 stays) h in
            let whole = count_without test low active high n a r e in
            let weight : one_where (test a.leaf a.user) ≡ 1 = ap one_where t in
            absurd (omega (arith, more, whole, weight, one))

-- nothing is used where none of the applications that count holds anything
pub unused : {K : ℕ} (cluster : Flat K) (test : Test) → ((app node : ℕ) → IsSite cluster app node → counts test (app_at cluster app) ≡ false) → used_by cluster test ≡ zeros K
unused {K} cluster test none =
    ext_get_or 0 (used_by cluster test) (zeros K) (length_used cluster test ∙ sym (length-replicate K 0))
    (λ k h.
    let below : k < K = omega (arith, h, length_used cluster test) in
    let live = sum_of_zeros (λ (c : Container). counted cluster test k c.app c.resource) cluster.nodes.live (λ c m. ap (λ b. if b then amount c.resource k else 0) (none c.app c.node (inl (c, m, refl, refl)))) in
    let reserved = sum_of_zeros (λ (c : Reservation). counted cluster test k c.app c.resource) cluster.nodes.reserved (λ c m. ap (λ b. if b then amount c.resource k else 0) (none c.app c.node (inr (c, m, refl, refl)))) in
    let zero : get_or (zeros K) k 0 ≡ 0 = get_or-replicate {A = ℕ} K k 0 0 below in
    omega (arith, use_amount cluster test k below, live, reserved, zero))
