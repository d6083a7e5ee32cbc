-- What the live containers on a node hold, and how many they are, as one more comes and one goes.
use Rattle.cap_nodes.proofs.Prelude.{◌≡◌, ℕ, ◌+◌, ◌-◌, ◌≤◌, ◌<◌, Bool, true, false, cond, List, [], ◌∷◌, ◌++◌, length, get_or, map, not, sym, ap, ◌∙◌, arith, subst, refl, Some, inl, inr, filter, find, count_by, ◌==◌, sum_by, AllByRecursion, same_Some, nat_tests, ext_get_or, get_or_past, get_or-replicate, length-replicate, cases_lt, sum_by_push, sum_by-cons, length-map-range_with_len, amount, by_amount, plus, less, zeros, Fits, IsWithin, amount-plus, amount-less, amount-zeros, length-less, sum_where, part, IsRising, amount_of, one_where}
use Rattle.cap_nodes.proofs.Numbered.{not_later}

-- a sum of no totals, and one without a total, is within the bound
pub zeros_within : (bound K : ℕ) → IsWithin bound (zeros K)
zeros_within bound K k = let none = amount-zeros K k in omega (arith, none)

pub less_within : (bound : ℕ) (old gone new : List ℕ) → new ≡ less old gone → IsWithin bound old → IsWithin bound new
less_within bound old gone new is within k =
    let least = within k in
    let same : amount new k ≡ amount old k - amount gone k = ap (λ v. amount v k) is ∙ amount-less old gone k in
    omega (arith, least, same)

module _ {X : Type 0} (num : X → ℕ) where
  -- a sum without the item of a number
  pub sum-without : (h : X → ℕ) (n low : ℕ) (xs : List X) (high : ℕ) → IsRising low (map num xs) high → (x : X) → find (λ y. num y == n) xs ≡ Some x →
      sum_by h xs ≡ sum_by h (filter (λ y. not (num y == n)) xs) + h x
  sum-without h n low [] high r x there = absurd (cc there)
  sum-without h n low (y ∷ xs) high r x there = by (num y == n) refl (λ later. sum-without h n (num y + 1) xs high r.1 x later)
    where
      by : (b : Bool) → (num y == n) ≡ b → (find (λ z. num z == n) xs ≡ Some x → sum_by h xs ≡ sum_by h (filter (λ z. not (num z == n)) xs) + h x) →
          sum_by h (y ∷ xs) ≡ sum_by h (filter (λ z. not (num z == n)) (y ∷ xs)) + h x
      by true e more =
          let this : y ≡ x = same_Some y x (subst (λ b. cond b (Some y) (find (λ z. num z == n) xs) ≡ Some x) e there) in
          let rest : filter (λ z. not (num z == n)) (y ∷ xs) ≡ xs = rw e (not_later num n (num y + 1) xs high r.1 (grind (arith, nat_tests, e))) in
          rw (rest, ← this) (let s = sum_by-cons h y xs in omega (arith, s))
      by false e more =
          let m = more (subst (λ b. cond b (Some y) (find (λ z. num z == n) xs) ≡ Some x) e there) in
          let rest : filter (λ z. not (num z == n)) (y ∷ xs) ≡ y ∷ filter (λ z. not (num z == n)) xs = rw e refl in
          rw rest (let s = sum_by-cons h y xs in let t = sum_by-cons h y (filter (λ z. not (num z == n)) xs) in omega (arith, s, t, m))

module _ {X : Type 0} (K : ℕ) (t : X → Bool) (of : X → List ℕ) where
  pub length-where : (xs : List X) → length (sum_where K t of xs) ≡ K
  length-where xs = length-map-range_with_len (part t of xs) 0 K

  pub amount-where : (xs : List X) (k : ℕ) → k < K → get_or (sum_where K t of xs) k 0 ≡ part t of xs k
  amount-where xs k h = amount_of K (part t of xs) k h

  pub where-push-other : (xs : List X) (x : X) → t x ≡ false → sum_where K t of (xs ++ x ∷ []) ≡ sum_where K t of xs
  where-push-other xs x e =
      let same : (k : ℕ) → part t of (xs ++ x ∷ []) k ≡ part t of xs k = λ k.
      let z : cond (t x) (amount (of x) k) 0 ≡ 0 = ap (λ c. cond c (amount (of x) k) 0) e in let p = sum_by_push (λ y. cond (t y) (amount (of y) k) 0) xs x in omega (arith, p, z) in
      λ i. by_amount K (λ k. same k i)

  pub where-push-own : (xs : List X) (x : X) → t x ≡ true → length (plus (sum_where K t of xs) (of x)) ≡ K → sum_where K t of (xs ++ x ∷ []) ≡ plus (sum_where K t of xs) (of x)
  where-push-own xs x e count =
      ext_get_or 0 (sum_where K t of (xs ++ x ∷ [])) (plus (sum_where K t of xs) (of x)) (omega (arith, count, length-where (xs ++ x ∷ [])))
      (λ i h.
      let b : i < K = omega (arith, length-where (xs ++ x ∷ [])) in
      let h = λ (y : X). cond (t y) (amount (of y) i) 0 in
      let z : h x ≡ amount (of x) i = ap (λ c. cond c (amount (of x) i) 0) e in
      let p : part t of (xs ++ x ∷ []) i ≡ part t of xs i + h x = sum_by_push h xs x in
      amount-where (xs ++ x ∷ []) i b ∙ p ∙ ap (λ n. part t of xs i + n) z ∙ ap (λ n. n + amount (of x) i) (sym (amount-where xs i b)) ∙ sym (amount-plus (sum_where K t of xs) (of x) i))

  -- the sums of all items and of those without one
  pub where-less-other : (xs ys : List X) (x : X) → ((h : X → ℕ) → sum_by h xs ≡ sum_by h ys + h x) → t x ≡ false → sum_where K t of ys ≡ sum_where K t of xs
  where-less-other xs ys x moved e =
      let same : (k : ℕ) → part t of xs k ≡ part t of ys k = λ k.
      let z : cond (t x) (amount (of x) k) 0 ≡ 0 = ap (λ c. cond c (amount (of x) k) 0) e in let p = moved (λ y. cond (t y) (amount (of y) k) 0) in omega (arith, p, z) in
      sym (λ i. by_amount K (λ k. same k i))

  pub part-less : (xs ys : List X) (x : X) → ((h : X → ℕ) → sum_by h xs ≡ sum_by h ys + h x) → t x ≡ true → (i : ℕ) → part t of xs i ≡ part t of ys i + amount (of x) i
  part-less xs ys x moved e i =
      let h = λ (y : X). cond (t y) (amount (of y) i) 0 in
      let z : h x ≡ amount (of x) i = ap (λ c. cond c (amount (of x) i) 0) e in
      let p : part t of xs i ≡ part t of ys i + h x = moved h in
      p ∙ ap (λ n. part t of ys i + n) z

  pub where-less-own : (xs ys : List X) (x : X) → ((h : X → ℕ) → sum_by h xs ≡ sum_by h ys + h x) → t x ≡ true → sum_where K t of ys ≡ less (sum_where K t of xs) (of x)
  where-less-own xs ys x moved e =
      ext_get_or 0 (sum_where K t of ys) (less (sum_where K t of xs) (of x)) (omega (arith, length-where xs, length-where ys, length-less (sum_where K t of xs) (of x)))
      (λ i h.
      let b : i < K = omega (arith, length-where ys) in
      let p = part-less xs ys x moved e i in
      amount-where ys i b ∙ (let q : part t of ys i ≡ part t of xs i - amount (of x) i = omega (arith, p) in q) ∙ ap (λ n. n - amount (of x) i) (sym (amount-where xs i b)) ∙ sym (amount-less (sum_where K t of xs) (of x) i))

  -- what goes was part of the sum, amount by amount
  pub where-had : (xs ys : List X) (x : X) → ((h : X → ℕ) → sum_by h xs ≡ sum_by h ys + h x) → t x ≡ true → length (of x) ≤ K → (k : ℕ) → amount (of x) k ≤ amount (sum_where K t of xs) k
  where-had xs ys x moved e short k =
      elim (cases_lt k K) [
        | inl b ↦ let p = part-less xs ys x moved e k in let a = amount-where xs k b in omega (arith, p, a)
        | inr past ↦ let z : amount (of x) k ≡ 0 = get_or_past (of x) k 0 (omega (arith, short, past)) in omega (arith, z)
      ]

pub count-push : {X : Type 0} (t : X → Bool) (xs : List X) (x : X) → count_by t (xs ++ x ∷ []) ≡ count_by t xs + one_where (t x)
count-push t xs x = sum_by_push (λ y. cond (t y) 1 0) xs x

-- no item passes
part-none : {X : Type 0} (t : X → Bool) (of : X → List ℕ) (xs : List X) → AllByRecursion (λ x. t x ≡ false) xs → (k : ℕ) → part t of xs k ≡ 0
part-none t of [] all k = refl
part-none {X} t of (x ∷ xs) all k =
    let h = λ (y : X). cond (t y) (amount (of y) k) 0 in
    let z : h x ≡ 0 = ap (λ c. cond c (amount (of x) k) 0) all.0 in
    let p : part t of (x ∷ xs) k ≡ h x + part t of xs k = sum_by-cons h x xs in
    let more : part t of xs k ≡ 0 = part-none t of xs all.1 k in
    omega (arith, p, z, more)

pub where-none : {X : Type 0} (K : ℕ) (t : X → Bool) (of : X → List ℕ) (xs : List X) → AllByRecursion (λ x. t x ≡ false) xs → sum_where K t of xs ≡ zeros K
where-none K t of xs all =
    ext_get_or 0 (sum_where K t of xs) (zeros K) (omega (arith, length-where K t of xs, length-replicate {A = ℕ} K 0))
    (λ i h.
    let b : i < K = omega (arith, length-where K t of xs) in
    amount-where K t of xs i b ∙ part-none t of xs all i ∙ sym (get_or-replicate K i 0 0 b))

pub filter-none : {X : Type 0} (t : X → Bool) (xs : List X) → AllByRecursion (λ x. t x ≡ false) xs → filter t xs ≡ []
filter-none t [] all = refl
filter-none t (x ∷ xs) all = rw all.0 (filter-none t xs all.1)

pub none-filter : {X : Type 0} (t : X → Bool) (xs : List X) → filter t xs ≡ [] → AllByRecursion (λ x. t x ≡ false) xs
none-filter t [] e = tt
none-filter t (x ∷ xs) e = by (t x) refl (none-filter t xs)
  where
    by : (b : Bool) → t x ≡ b → (filter t xs ≡ [] → AllByRecursion (λ y. t y ≡ false) xs) → AllByRecursion (λ y. t y ≡ false) (x ∷ xs)
    by true h more = absurd (cc (sym (ap (λ b. cond b (x ∷ filter t xs) (filter t xs)) h) ∙ e))
    by false h more = (h, more (sym (ap (λ b. cond b (x ∷ filter t xs) (filter t xs)) h) ∙ e))

pub zeros-fit : (K : ℕ) (v : List ℕ) → Fits (zeros K) v
zeros-fit K v k =
    elim (cases_lt k K) [
      | inl b ↦ let z : amount (zeros K) k ≡ 0 = get_or-replicate K k 0 0 b in omega (arith, z)
      | inr past ↦ let z : amount (zeros K) k ≡ 0 = get_or_past (zeros K) k 0 (omega (arith, length-replicate {A = ℕ} K 0, past)) in omega (arith, z)
    ]
