-- The containers that some numbers name among others, and their ends.
use Rattle.cap_laws.proofs.Prelude.{◌≡◌, ℕ, ◌+◌, Bool, true, false, List, [], ◌∷◌, refl, sym, ◌∙◌, ap, arith, Option, Some, None, cond, not, ◌&&◌, ◌||◌, ◌==◌, filter, find, count_by, list_any, sum_by, cons_option, nat_tests, sum_by-cons, Cause, End, Container, is_among, named_among, IsRising, container_numbers, ends_of, found, rising_kept, rising_from_low, sum_of_zeros, sum_by_map, one_where, sum_of_two, count_kept, filter_same, filter_twice, twice_not, and_false, or_false}
use Rattle.cap_laws.proofs.numbers.Balance.{among_some}

-- whether some numbers name a container
abbrev pub is_named : List ℕ → Container → Bool
is_named ns c = list_any (λ k. c.number == k) ns

-- what counts of the one that is found
abbrev of_found : (Container → Bool) → Option Container → ℕ
of_found g None = 0
of_found g (Some c) = one_where (g c)

count_with : (g : Container → Bool) (o : Option Container) (xs : List Container) → count_by g (cons_option o xs) ≡ of_found g o + count_by g xs
count_with g None xs = omega arith
count_with g (Some c) xs = sum_by-cons (λ y. one_where (g y)) c xs

-- of containers in order at most the one that is found has a number
count_at : (g : Container → Bool) (n low : ℕ) (xs : List Container) (high : ℕ) → IsRising low (container_numbers xs) high → sum_by (λ (x : Container). one_where (x.number == n && g x)) xs ≡ of_found g (find (λ (x : Container). x.number == n) xs)
count_at g n low [] high r = refl
count_at g n low (x ∷ xs) high r = by (x.number == n) refl (count_at g n (x.number + 1) xs high r.1)
  where
    first : sum_by (λ (y : Container). one_where (y.number == n && g y)) (x ∷ xs) ≡ one_where (x.number == n && g x) + sum_by (λ (y : Container). one_where (y.number == n && g y)) xs
    first = sum_by-cons (λ (y : Container). one_where (y.number == n && g y)) x xs

    by : (b : Bool) → x.number == n ≡ b → sum_by (λ (y : Container). one_where (y.number == n && g y)) xs ≡ of_found g (find (λ (y : Container). y.number == n) xs) →
        sum_by (λ (y : Container). one_where (y.number == n && g y)) (x ∷ xs) ≡ of_found g (cond b (Some x) (find (λ (y : Container). y.number == n) xs))
    by true e h =
        let head : one_where (x.number == n && g x) ≡ one_where (g x) = ap (λ b. one_where (b && g x)) e in
        let none : sum_by (λ (y : Container). one_where (y.number == n && g y)) xs ≡ 0 =
        sum_of_zeros (λ (y : Container). one_where (y.number == n && g y)) xs
        (λ y m.
        let above = rising_from_low (λ (z : Container). z.number) (x.number + 1) xs high y r.1 m in
        let other : y.number == n ≡ false = grind (arith, nat_tests, e, above) in
        ap (λ b. one_where (b && g y)) other) in
        omega (arith, first, head, none)
    by false e h =
        let head : one_where (x.number == n && g x) ≡ 0 = ap (λ b. one_where (b && g x)) e in
        omega (arith, first, head, h)

split_name : (a b g : Bool) → one_where ((a || b) && g) ≡ one_where (a && g) + one_where (not a && (b && g))
split_name true b g = omega arith
split_name false b g = omega arith

-- what some numbers name among containers in order, counted: those of them that are named
pub count_named : (g : Container → Bool) (ns : List ℕ) (low : ℕ) (xs : List Container) (high : ℕ) → IsRising low (container_numbers xs) high → count_by g (named_among ns xs) ≡ count_by g (filter (is_named ns) xs)
count_named g [] low xs high r = sym (count_kept g (is_named []) xs ∙ sum_of_zeros (λ (x : Container). one_where (false && g x)) xs (λ x m. refl))
count_named g (n ∷ ns) low xs high r =
    let others = filter (λ (x : Container). not (x.number == n)) xs in
    let rest : count_by g (named_among ns others) ≡ count_by g (filter (is_named ns) others) =
    count_named g ns low others high (rising_kept (λ (x : Container). x.number) (λ x. not (x.number == n)) low xs high r) in
    let here = count_at g n low xs high r in
    let whole = count_kept g (is_named (n ∷ ns)) xs in
    let parts : sum_by (λ (x : Container). one_where (is_named (n ∷ ns) x && g x)) xs ≡ sum_by (λ (x : Container). one_where (x.number == n && g x) + one_where (not (x.number == n) && (is_named ns x && g x))) xs =
    (λ i. sum_by (λ (x : Container). split_name (x.number == n) (is_named ns x) (g x) i) xs) in
    let two = sum_of_two (λ (x : Container). one_where (x.number == n && g x)) (λ x. one_where (not (x.number == n) && (is_named ns x && g x))) xs in
    let a = count_kept (λ (x : Container). is_named ns x && g x) (λ x. not (x.number == n)) xs in
    let b : count_by g (filter (is_named ns) others) ≡ count_by (λ x. is_named ns x && g x) others = count_kept g (is_named ns) others in
    let c = count_with g (find (λ (x : Container). x.number == n) xs) (named_among ns others) in
    omega (arith, rest, here, whole, parts, two, a, b, c)

-- whether a container is among those that some numbers name: it is among all, and is named
among_found : (n : ℕ) (c : Container) (xs : List Container) → n == c.number ≡ true → (o : Option Container) → find (λ (x : Container). x.number == n) xs ≡ o → is_among (cons_option o []) c ≡ is_among xs c
among_found n c [] e None f = refl
among_found n c [] e (Some d) f = absurd (cc f)
among_found n c (x ∷ xs) e o f = by (x.number == n) refl f (λ o' f'. among_found n c xs e o' f')
  where
    number : n ≡ c.number
    number = grind (arith, nat_tests, e)

    by : (b : Bool) → x.number == n ≡ b → cond b (Some x) (find (λ (y : Container). y.number == n) xs) ≡ o → ((o' : Option Container) → find (λ (y : Container). y.number == n) xs ≡ o' → is_among (cons_option o' []) c ≡ is_among xs c) →
        is_among (cons_option o []) c ≡ (x.number == c.number) || is_among xs c
    by true g h r =
        let yes : x.number == c.number ≡ true = grind (arith, nat_tests, g, number) in
        ap (λ p. is_among (cons_option p []) c) (sym h) ∙ (λ i. yes i || false) ∙ sym (ap (λ b. b || is_among xs c) yes)
    by false g h r =
        let no : x.number == c.number ≡ false = grind (arith, nat_tests, g, number) in
        r o h ∙ sym (ap (λ b. b || is_among xs c) no)

among_others : (n : ℕ) (c : Container) (xs : List Container) → c.number == n ≡ false → is_among (filter (λ (x : Container). not (x.number == n)) xs) c ≡ is_among xs c
among_others n c [] e = refl
among_others n c (x ∷ xs) e = by (x.number == n) refl (among_others n c xs e)
  where
    by : (b : Bool) → x.number == n ≡ b → is_among (filter (λ (y : Container). not (y.number == n)) xs) c ≡ is_among xs c →
        is_among (cond (not b) (x ∷ filter (λ (y : Container). not (y.number == n)) xs) (filter (λ (y : Container). not (y.number == n)) xs)) c ≡ (x.number == c.number) || is_among xs c
    by true g r = let no : x.number == c.number ≡ false = grind (arith, nat_tests, g, e) in r ∙ sym (ap (λ b. b || is_among xs c) no)
    by false g r = ap (λ b. (x.number == c.number) || b) r

-- the one that is found has its number
found_number : (n : ℕ) (xs : List Container) (d : Container) → find (λ (x : Container). x.number == n) xs ≡ Some d → d.number == n ≡ true
found_number n xs d f = (Rattle.cap_base.proofs.lists.Members.found (λ (x : Container). x.number == n) xs d f).1

head_or : (o : Option Container) (ys : List Container) (c : Container) → is_among (cons_option o ys) c ≡ is_among (cons_option o []) c || is_among ys c
head_or None ys c = refl
head_or (Some d) ys c = by (d.number == c.number)
  where
    by : (b : Bool) → b || is_among ys c ≡ (b || false) || is_among ys c
    by true = refl
    by false = refl

not_found_among : (n : ℕ) (c : Container) (xs : List Container) → c.number == n ≡ false → (o : Option Container) → find (λ (x : Container). x.number == n) xs ≡ o → is_among (cons_option o []) c ≡ false
not_found_among n c xs e None f = refl
not_found_among n c xs e (Some d) f =
    let has = found_number n xs d f in
    let no : d.number == c.number ≡ false = grind (arith, nat_tests, has, e) in
    ap (λ b. b || false) no

is_true_or : (a b x : Bool) → a ≡ true → (a || b) && x ≡ x
is_true_or true b x e = refl
is_true_or false b x e = absurd (cc e)

is_false_or : (a b x : Bool) → a ≡ false → (a || b) && x ≡ b && x
is_false_or true b x e = absurd (cc e)
is_false_or false b x e = refl

-- those of another number are not among those without it
gone_number : (n : ℕ) (c : Container) (xs : List Container) → c.number == n ≡ true → is_among (filter (λ (x : Container). not (x.number == n)) xs) c ≡ false
gone_number n c [] e = refl
gone_number n c (x ∷ xs) e = by (x.number == n) refl (gone_number n c xs e)
  where
    by : (b : Bool) → x.number == n ≡ b → is_among (filter (λ (y : Container). not (y.number == n)) xs) c ≡ false →
        is_among (cond (not b) (x ∷ filter (λ (y : Container). not (y.number == n)) xs) (filter (λ (y : Container). not (y.number == n)) xs)) c ≡ false
    by true g r = r
    by false g r = let no : x.number == c.number ≡ false = grind (arith, nat_tests, g, e) in ap (λ b. b || is_among (filter (λ (y : Container). not (y.number == n)) xs) c) no ∙ r

pub among_named : (ns : List ℕ) (xs : List Container) (c : Container) → is_among (named_among ns xs) c ≡ is_named ns c && is_among xs c
among_named [] xs c = refl
among_named (n ∷ ns) xs c = by (c.number == n) refl (among_named ns (filter (λ (x : Container). not (x.number == n)) xs) c)
  where
    others : List Container
    others = filter (λ (x : Container). not (x.number == n)) xs

    by : (b : Bool) → c.number == n ≡ b → is_among (named_among ns others) c ≡ is_named ns c && is_among others c → is_among (named_among (n ∷ ns) xs) c ≡ is_named (n ∷ ns) c && is_among xs c
    by true e r =
        let turned : n == c.number ≡ true = grind (arith, nat_tests, e) in
        head_or (find (λ (x : Container). x.number == n) xs) (named_among ns others) c
        ∙ (λ i. among_found n c xs turned (find (λ (x : Container). x.number == n) xs) refl i || (r ∙ ap (λ b. is_named ns c && b) (gone_number n c xs e) ∙ and_false (is_named ns c)) i)
        ∙ or_false (is_among xs c)
        ∙ sym (is_true_or (c.number == n) (is_named ns c) (is_among xs c) e)
    by false e r =
        head_or (find (λ (x : Container). x.number == n) xs) (named_among ns others) c
        ∙ (λ i. not_found_among n c xs e (find (λ (x : Container). x.number == n) xs) refl i || (r ∙ ap (λ b. is_named ns c && b) (among_others n c xs e)) i)
        ∙ sym (is_false_or (c.number == n) (is_named ns c) (is_among xs c) e)

-- those that are not left out of the live containers are those that some numbers name among some of them
pub count_ended : (g t : Container → Bool) (ns : List ℕ) (low : ℕ) (live : List Container) (high : ℕ) → IsRising low (container_numbers live) high →
    count_by g (named_among ns (filter t live)) ≡ count_by g (filter (λ c. not (not (is_among (named_among ns (filter t live)) c))) live)
count_ended g t ns low live high r =
    count_named g ns low (filter t live) high (rising_kept (λ (x : Container). x.number) t low live high r)
    ∙ ap (count_by g)
    (filter_twice (is_named ns) t (λ c. cond (t c) (is_named ns c) false) live (λ c. refl)
    ∙ sym (filter_same (λ c. not (not (is_among (named_among ns (filter t live)) c))) (λ c. cond (t c) (is_named ns c) false) live
    (λ c m.
    twice_not (is_among (named_among ns (filter t live)) c) ∙ among_named ns (filter t live) c ∙ ap (λ b. is_named ns c && b) (among_some t low live high c r m) ∙ turn (is_named ns c) (t c))))
  where
    turn : (a b : Bool) → a && b ≡ cond b a false
    turn true true = refl
    turn true false = refl
    turn false true = refl
    turn false false = refl

pub count_lost : (g t : Container → Bool) (low : ℕ) (live : List Container) (high : ℕ) → IsRising low (container_numbers live) high →
    count_by g (filter t live) ≡ count_by g (filter (λ c. not (not (is_among (filter t live) c))) live)
count_lost g t low live high r =
    ap (count_by g) (sym (filter_same (λ c. not (not (is_among (filter t live) c))) t live (λ c m. twice_not (is_among (filter t live) c) ∙ among_some t low live high c r m)))

-- ends of containers, counted by number
pub count_ends : (cause : Cause) (n number : ℕ) (gone : List Container) → count_by (λ (e : End). e.container == number) (ends_of cause n gone) ≡ count_by (λ (c : Container). c.app == n && c.number == number) gone
count_ends cause n number gone =
    sum_by_map (λ (c : Container). record { container = c.number; cause = cause }) (λ (e : End). one_where (e.container == number)) (filter (λ c. c.app == n) gone)
    ∙ count_kept (λ (c : Container). c.number == number) (λ c. c.app == n) gone

pub count_of : (n number : ℕ) (xs : List Container) → count_by (λ (c : Container). c.number == number) (filter (λ c. c.app == n) xs) ≡ count_by (λ (c : Container). c.app == n && c.number == number) xs
count_of n number xs = count_kept (λ (c : Container). c.number == number) (λ c. c.app == n) xs
