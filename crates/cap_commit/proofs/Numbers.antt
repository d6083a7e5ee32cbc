-- The numbers of applications that pass a test, as applications change.
use Rattle.cap_commit.proofs.Prelude.{◌≡◌, ℕ, ◌+◌, ◌<◌, ◌≤◌, Bool, true, false, cond, List, [], ◌∷◌, ◌++◌, length, map, refl, sym, ◌∙◌, ap, inl, inr, arith, not, ◌==◌, ◌&&◌, nat_lt, nat_tests, filter, count_by, length-filter, length-map, IsIn, IsRising, rising_kept, App, numbers_of}
use Rattle.cap_tree.specs.Numbers.{with_number, without_number}

numbers-cons : (test : App → Bool) (x : App) (apps : List App) → numbers_of test (x ∷ apps) ≡ cond (test x) (x.number ∷ numbers_of test apps) (numbers_of test apps)
numbers-cons test x apps = by (test x)
  where
    by : (b : Bool) → map (λ (app : App). app.number) (cond b (x ∷ filter test apps) (filter test apps)) ≡ cond b (x.number ∷ numbers_of test apps) (numbers_of test apps)
    by true = refl
    by false = refl

-- they are as many as pass
pub length-numbers_of : (test : App → Bool) (apps : List App) → length (numbers_of test apps) ≡ count_by test apps
length-numbers_of test apps = length-map (filter test apps) (λ (app : App). app.number) ∙ length-filter test apps

-- one that does not pass comes last
pub numbers_entered : (test : App → Bool) (a : App) (apps : List App) → test a ≡ false → numbers_of test (apps ++ a ∷ []) ≡ numbers_of test apps
numbers_entered test a [] none = numbers-cons test a [] ∙ ap (λ b. cond b (a.number ∷ []) []) none
numbers_entered test a (x ∷ apps) none = numbers-cons test x (apps ++ a ∷ []) ∙ ap (λ ns. cond (test x) (x.number ∷ ns) ns) (numbers_entered test a apps none) ∙ sym (numbers-cons test x apps)

without-pushed : (n m : ℕ) (ns : List ℕ) (b c : Bool) → (m == n) ≡ c → without_number n (cond b (m ∷ ns) ns) ≡ cond (b && not c) (m ∷ without_number n ns) (without_number n ns)
without-pushed n m ns true c e = ap (λ d. cond (not d) (m ∷ without_number n ns) (without_number n ns)) e
without-pushed n m ns false c e = refl

pub with_none : (b : Bool) → b && false ≡ false
with_none true = refl
with_none false = refl

pub with_all : (b : Bool) → b && true ≡ b
with_all true = refl
with_all false = refl

-- without those of a number
pub numbers_left : (n : ℕ) (test : App → Bool) (apps : List App) → numbers_of test (filter (λ app. not (app.number == n)) apps) ≡ without_number n (numbers_of test apps)
numbers_left n test [] = refl
numbers_left n test (x ∷ apps) = by (numbers_left n test apps) (x.number == n) refl
  where
    rest : List App
    rest = filter (λ (app : App). not (app.number == n)) apps

    right : (c : Bool) → x.number == n ≡ c → without_number n (numbers_of test (x ∷ apps)) ≡ cond (test x && not c) (x.number ∷ without_number n (numbers_of test apps)) (without_number n (numbers_of test apps))
    right c e = ap (without_number n) (numbers-cons test x apps) ∙ without-pushed n x.number (numbers_of test apps) (test x) c e

    by : numbers_of test rest ≡ without_number n (numbers_of test apps) → (c : Bool) → x.number == n ≡ c → numbers_of test (cond (not c) (x ∷ rest) rest) ≡ without_number n (numbers_of test (x ∷ apps))
    by left true e = left ∙ sym (right true e ∙ ap (λ b. cond b (x.number ∷ without_number n (numbers_of test apps)) (without_number n (numbers_of test apps))) (with_none (test x)))
    by left false e =
        numbers-cons test x rest ∙ ap (λ ns. cond (test x) (x.number ∷ ns) ns) left
        ∙ sym (right false e ∙ ap (λ b. cond b (x.number ∷ without_number n (numbers_of test apps)) (without_number n (numbers_of test apps))) (with_all (test x)))

module _ (test test' : App → Bool) (g : App → App) where
  -- a change that keeps numbers, and what passes the one test passes the other
  pub record PassesSame (x : App) : Type 0 where
    pub number : (g x).number ≡ x.number
    pub passes : test' (g x) ≡ test x

  pub numbers_same : (apps : List App) → ((x : App) → IsIn x apps → PassesSame x) → numbers_of test' (map g apps) ≡ numbers_of test apps
  numbers_same [] h = refl
  numbers_same (x ∷ apps) h =
      let e = h x (inl refl) in
      let rest = numbers_same apps (λ y m. h y (inr m)) in
      numbers-cons test' (g x) (map g apps) ∙ (λ i. cond (e.passes i) (e.number i ∷ rest i) (rest i)) ∙ sym (numbers-cons test x apps)

  -- a change of those of a number alone, which all pass then, or do not
  module _ (n : ℕ) where
    pub record PassesNoMore (x : App) : Type 0 where
      pub number : (g x).number ≡ x.number
      pub passes : test' (g x) ≡ test x && not (x.number == n)

    pub numbers_less : (apps : List App) → ((x : App) → IsIn x apps → PassesNoMore x) → numbers_of test' (map g apps) ≡ without_number n (numbers_of test apps)
    numbers_less [] h = refl
    numbers_less (x ∷ apps) h =
        let e = h x (inl refl) in
        let rest = numbers_less apps (λ y m. h y (inr m)) in
        numbers-cons test' (g x) (map g apps) ∙ (λ i. cond (e.passes i) (e.number i ∷ rest i) (rest i))
        ∙ sym (ap (without_number n) (numbers-cons test x apps) ∙ without-pushed n x.number (numbers_of test apps) (test x) (x.number == n) refl)

    pub record PassesNow (x : App) : Type 0 where
      pub number : (g x).number ≡ x.number
      pub it : x.number == n ≡ true → (test x ≡ false) × (test' (g x) ≡ true)
      pub other : x.number == n ≡ false → test' (g x) ≡ test x

    -- a number that is less than all comes first
    comes_first : (high : ℕ) (ns : List ℕ) → IsRising (n + 1) ns high → with_number n ns ≡ n ∷ ns
    comes_first high [] r = refl
    comes_first high (m ∷ ns) r = let first = r.0 in let e : nat_lt m n ≡ false = grind (arith, nat_tests, first) in ap (λ b. cond b (m ∷ with_number n ns) (n ∷ m ∷ ns)) e

    above : (low high : ℕ) (apps : List App) → IsRising low (map (λ (x : App). x.number) apps) high → (x : App) → IsIn x apps → low ≤ x.number
    above low high [] r x m = absurd m
    above low high (y ∷ apps) r x (inl e) = let first = r.0 in let k : y.number ≡ x.number = ap (λ (z : App). z.number) e in omega (arith, first, k)
    above low high (y ∷ apps) r x (inr m) = let first = r.0 in let k = above (y.number + 1) high apps r.1 x m in omega (arith, first, k)

    pub numbers_more : (low high : ℕ) (apps : List App) → IsRising low (map (λ (x : App). x.number) apps) high → (a : App) → IsIn a apps → a.number ≡ n → ((x : App) → IsIn x apps → PassesNow x) → numbers_of test' (map g apps) ≡ with_number n (numbers_of test apps)
    numbers_more low high [] r a m is h = absurd m
    numbers_more low high (x ∷ apps) r a (inl e) is h =
        let number : x.number ≡ n = ap (λ (y : App). y.number) e ∙ is in
        let own = h x (inl refl) in
        let now = own.it (grind (arith, nat_tests, number)) in
        let others : numbers_of test' (map g apps) ≡ numbers_of test apps =
        numbers_same apps (λ y m. let up = above (x.number + 1) high apps r.1 y m in record { number = (h y (inr m)).number; passes = (h y (inr m)).other (grind (arith, nat_tests, number, up)) }) in
        let rising : IsRising (n + 1) (numbers_of test apps) high = rising_kept (λ (y : App). y.number) test (n + 1) apps high (rw (← number) r.1) in
        numbers-cons test' (g x) (map g apps) ∙ (λ i. cond (now.1 i) ((own.number ∙ number) i ∷ others i) (others i)) ∙ sym (comes_first high (numbers_of test apps) rising)
        ∙ ap (with_number n) (sym (numbers-cons test x apps ∙ ap (λ b. cond b (x.number ∷ numbers_of test apps) (numbers_of test apps)) now.0))
    numbers_more low high (x ∷ apps) r a (inr m) is h =
        let own = h x (inl refl) in
        let up = above (x.number + 1) high apps r.1 a m in
        let less : x.number < n = omega (arith, up, is) in
        let same = own.other (grind (arith, nat_tests, less)) in
        let rest = numbers_more (x.number + 1) high apps r.1 a m is (λ y k. h y (inr k)) in
        numbers-cons test' (g x) (map g apps) ∙ (λ i. cond (same i) (own.number i ∷ rest i) (rest i)) ∙ pushed (test x) ∙ ap (with_number n) (sym (numbers-cons test x apps))
      where
        pushed : (b : Bool) → cond b (x.number ∷ with_number n (numbers_of test apps)) (with_number n (numbers_of test apps)) ≡ with_number n (cond b (x.number ∷ numbers_of test apps) (numbers_of test apps))
        pushed true =
            let up = above (x.number + 1) high apps r.1 a m in
            let less : nat_lt x.number n ≡ true = grind (arith, nat_tests, up, is) in
            sym (ap (λ b. cond b (x.number ∷ with_number n (numbers_of test apps)) (n ∷ x.number ∷ numbers_of test apps)) less)
        pushed false = refl
