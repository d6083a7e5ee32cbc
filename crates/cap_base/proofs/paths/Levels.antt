-- The queues from the root down to a leaf stand in order of level.
use Rattle.cap_base.proofs.Prelude.{◌≡◌, ℕ, zero, suc, ◌+◌, ◌≤◌, ◌<◌, Bool, true, false, List, [], ◌∷◌, ◌++◌, refl, sym, ◌∙◌, ap, subst, inl, inr, arith, ◌⊎◌, IsSome, cond, ◌==◌, filter, find, map, bytes_eq, range_with_len, nat_tests, bytes_eq-Decides, sum_by-cons, sum_by-append, QueueRow, is_under, IsRising, StandBelow, depth, LevelsInOrder}
use Rattle.cap_base.proofs.lists.Members.{IsIn, in_filter, found, each_of, in_map, none_in}
use Rattle.cap_base.proofs.lists.Sums.{one_where}
use Rattle.cap_base.proofs.lists.Tests.{value_of, or_left, or_right}
use Rattle.cap_base.proofs.paths.Paths.{IsUnder, under_is, is_under_it, head_is, tail_is, has_dot}

pub depth_cons : (b : ℕ) (path : List ℕ) → depth (b ∷ path) ≡ one_where (b == 46) + depth path
depth_cons b path = sum_by-cons (λ x. one_where (x == 46)) b path

-- a path goes one level down with each dot
pub below_is_deeper : (front rest : List ℕ) → depth (front ++ 46 ∷ rest) ≡ depth front + 1 + depth rest
below_is_deeper front rest =
    let whole = sum_by-append (λ (x : ℕ). one_where (x == 46)) front (46 ∷ rest) in
    let dot = depth_cons 46 rest in
    omega (arith, whole, dot)

-- a path without a dot is on no level below another
pub no_levels : (name : List ℕ) → has_dot name ≡ false → depth name ≡ 0
no_levels [] h = refl
no_levels (b ∷ name) h =
    let none : one_where (b == 46) ≡ 0 = ap one_where (or_left (b == 46) (has_dot name) h) in
    let rest = no_levels name (or_right (b == 46) (has_dot name) h) in
    omega (arith, depth_cons b name, none, rest)

-- what is after a path: nothing, or a dot and more
abbrev IsTail : List ℕ → Type 0
IsTail rest = (rest ≡ []) ⊎ ((more : List ℕ) × (rest ≡ 46 ∷ more))

deeper : (b : ℕ) (x y : List ℕ) → IsUnder x y ⊎ IsUnder y x → IsUnder (b ∷ x) (b ∷ y) ⊎ IsUnder (b ∷ y) (b ∷ x)
deeper b x y (inl (inl e)) = inl (inl (ap (λ l. b ∷ l) e))
deeper b x y (inl (inr (rest, e))) = inl (inr (rest, ap (λ l. b ∷ l) e))
deeper b x y (inr (inl e)) = inr (inl (ap (λ l. b ∷ l) e))
deeper b x y (inr (inr (rest, e))) = inr (inr (rest, ap (λ l. b ∷ l) e))

-- of two paths that a third is under, one is under the other
one_above : (x y r s : List ℕ) → x ++ r ≡ y ++ s → IsTail r → IsTail s → IsUnder x y ⊎ IsUnder y x
one_above [] [] r s e t u = inl (inl refl)
one_above [] (b ∷ y) r s e (inl t) u = absurd (cc (sym t ∙ e))
one_above [] (b ∷ y) r s e (inr (more, t)) u =
    let dot : 46 ≡ b = head_is 46 b more (y ++ s) (sym t ∙ e) in
    inl (inr (y, ap (λ c. c ∷ y) (sym dot)))
one_above (a ∷ x) [] r s e t (inl u) = absurd (cc (sym u ∙ sym e))
one_above (a ∷ x) [] r s e t (inr (more, u)) =
    let dot : 46 ≡ a = head_is 46 a more (x ++ r) (sym u ∙ sym e) in
    inr (inr (x, ap (λ c. c ∷ x) (sym dot)))
one_above (a ∷ x) (b ∷ y) r s e t u =
    let same : a ≡ b = head_is a b (x ++ r) (y ++ s) e in
    subst (λ c. IsUnder (a ∷ x) (c ∷ y) ⊎ IsUnder (c ∷ y) (a ∷ x)) same (deeper a x y (one_above x y r s (tail_is a b (x ++ r) (y ++ s) e) t u))

-- a path and what comes after it
tail_of : (path queue : List ℕ) → IsUnder path queue → (rest : List ℕ) × (queue ≡ path ++ rest) × IsTail rest
tail_of path queue (inl e) = ([], e ∙ sym (Rattle.std.proofs.lemmas.List.append-nil path), inl refl)
tail_of path queue (inr (more, e)) = (46 ∷ more, e, inr (more, refl))

pub comparable : (x y leaf : List ℕ) → IsUnder x leaf → IsUnder y leaf → IsUnder x y ⊎ IsUnder y x
comparable x y leaf u v =
    let a = tail_of x leaf u in
    let b = tail_of y leaf v in
    one_above x y (a.0) (b.0) (sym (a.1) ∙ b.1) (a.2) (b.2)

-- levels of what is under a path
not_shallower : (path queue : List ℕ) → IsUnder path queue → depth path ≤ depth queue
not_shallower path queue (inl e) = let s : depth queue ≡ depth path = ap depth e in omega (arith, s)
not_shallower path queue (inr (rest, e)) = let s : depth queue ≡ depth (path ++ 46 ∷ rest) = ap depth e in omega (arith, s, below_is_deeper path rest)

-- one that stands before, and is not under the other, is above it
is_shallower : (x y leaf : List ℕ) → IsUnder x leaf → IsUnder y leaf → is_under y x ≡ false → depth x < depth y
is_shallower x y leaf u v e = by (comparable x y leaf u v)
  where
    no : IsUnder y x → ⊥
    no w = let yes = is_under_it y x w in cc (yes, e)

    by : IsUnder x y ⊎ IsUnder y x → depth x < depth y
    by (inl (inl s)) = absurd (no (inl (sym s)))
    by (inl (inr (rest, s))) = let t : depth y ≡ depth (x ++ 46 ∷ rest) = ap depth s in omega (arith, t, below_is_deeper x rest)
    by (inr w) = absurd (no w)

abbrev above : List ℕ → QueueRow → Bool
above leaf q = is_under q.path leaf

-- the levels rise
levels_rise : (leaf : List ℕ) (low : ℕ) (qs : List QueueRow) → StandBelow qs → ((q : QueueRow) → IsIn q qs → IsUnder q.path leaf → low ≤ depth q.path) → low ≤ depth leaf + 1 →
    IsRising low (map (λ q. depth q.path) (filter (above leaf) qs)) (depth leaf + 1)
levels_rise leaf low [] s f h = h
levels_rise leaf low (q ∷ qs) s f h = by (above leaf q) refl (levels_rise leaf low qs s.1 (λ r m. f r (inr m)) h) (levels_rise leaf (depth q.path + 1) qs s.1)
  where
    by : (b : Bool) → above leaf q ≡ b → IsRising low (map (λ r. depth r.path) (filter (above leaf) qs)) (depth leaf + 1) →
        (((r : QueueRow) → IsIn r qs → IsUnder r.path leaf → depth q.path + 1 ≤ depth r.path) → depth q.path + 1 ≤ depth leaf + 1 → IsRising (depth q.path + 1) (map (λ r. depth r.path) (filter (above leaf) qs)) (depth leaf + 1)) →
        IsRising low (map (λ r. depth r.path) (cond b (q ∷ filter (above leaf) qs) (filter (above leaf) qs))) (depth leaf + 1)
    by true e g k =
        let u = under_is q.path leaf e in
        let top = not_shallower q.path leaf u in (
          f q (inl refl) u,
          k (λ r m v. let d = is_shallower q.path r.path leaf u v (none_in (λ (x : QueueRow). is_under x.path q.path) qs r s.0 m) in omega (arith, d)) (omega (arith, top)),
        )
    by false e g k = g

-- each level down to the leaf has a beginning of its path
front_at : (path : List ℕ) (k : ℕ) → k < depth path → (front : List ℕ) × (rest : List ℕ) × (path ≡ front ++ 46 ∷ rest) × (depth front ≡ k)
front_at [] k h = absurd (omega (arith, h))
front_at (b ∷ path) k h = by (b == 46) refl k h (front_at path)
  where
    by : (dot : Bool) → b == 46 ≡ dot → (k : ℕ) → k < depth (b ∷ path) → ((j : ℕ) → j < depth path → (front : List ℕ) × (rest : List ℕ) × (path ≡ front ++ 46 ∷ rest) × (depth front ≡ j)) →
        (front : List ℕ) × (rest : List ℕ) × (b ∷ path ≡ front ++ 46 ∷ rest) × (depth front ≡ k)
    by true e zero h f = let same : b ≡ 46 = grind (arith, nat_tests, e) in ([], path, ap (λ x. x ∷ path) same, refl)
    by true e (suc k) h f =
        let one : one_where (b == 46) ≡ 1 = ap one_where e in
        let whole = depth_cons b path in
        let r = f k (omega (arith, h, one, whole)) in
        let deep = r.3 in
        let this = depth_cons b (r.0) in
        (b ∷ (r.0), r.1, ap (λ x. b ∷ x) (r.2), omega (arith, this, one, deep))
    by false e k h f =
        let none : one_where (b == 46) ≡ 0 = ap one_where e in
        let whole = depth_cons b path in
        let r = f k (omega (arith, h, none, whole)) in
        let deep = r.3 in
        let this = depth_cons b (r.0) in
        (b ∷ (r.0), r.1, ap (λ x. b ∷ x) (r.2), omega (arith, this, none, deep))

-- numbers that rise and are all there are all in order
all_there : (low n : ℕ) (ns : List ℕ) → IsRising low ns (low + n) → ((k : ℕ) → low ≤ k → k < low + n → IsIn k ns) → ns ≡ range_with_len low n
all_there low zero [] r f = refl
all_there low zero (m ∷ ns) r f = absurd (omega (arith, r.0, ends (m + 1) ns (low + 0) r.1))
  where
    ends : (a : ℕ) (xs : List ℕ) (high : ℕ) → IsRising a xs high → a ≤ high
    ends a [] high s = s
    ends a (x ∷ xs) high s = omega (arith, s.0, ends (x + 1) xs high s.1)
all_there low (suc n) [] r f = absurd (f low (omega arith) (omega arith))
all_there low (suc n) (m ∷ ns) r f =
    let first : m ≡ low = by (f low (omega arith) (omega arith)) in
    (λ i. first i ∷ all_there (low + 1) n ns (subst (λ h. IsRising (low + 1) ns h) (omega arith) (subst (λ a. IsRising (a + 1) ns (low + suc n)) first r.1)) rest i)
  where
    from_low : (a : ℕ) (xs : List ℕ) (high k : ℕ) → IsRising a xs high → IsIn k xs → a ≤ k
    from_low a [] high k s m = absurd m
    from_low a (x ∷ xs) high k s (inl e) = omega (arith, s.0, e)
    from_low a (x ∷ xs) high k s (inr g) = omega (arith, s.0, from_low (x + 1) xs high k s.1 g)

    by : IsIn low (m ∷ ns) → m ≡ low
    by (inl e) = e
    by (inr g) = absurd (omega (arith, r.0, from_low (m + 1) ns (low + suc n) low r.1 g))

    rest : (k : ℕ) → low + 1 ≤ k → k < low + 1 + n → IsIn k ns
    rest k a b = later (f k (omega (arith, a)) (omega (arith, b)))
      where
        later : IsIn k (m ∷ ns) → IsIn k ns
        later (inl e) = absurd (omega (arith, e, a, by (f low (omega arith) (omega arith))))
        later (inr g) = g

pub levels_in_order : LevelsInOrder
levels_in_order queues leaf t s h =
    all_there 0 (depth leaf + 1) (map (λ q. depth q.path) (filter (above leaf) queues))
    (subst (λ n. IsRising 0 (map (λ q. depth q.path) (filter (above leaf) queues)) n) (omega arith) (levels_rise leaf 0 queues s (λ q m u. omega arith) (omega arith)))
    (λ k a b. by (Rattle.std.proofs.lemmas.Bool.cases_lt k (depth leaf)) b)
  where
    row : (path : List ℕ) → IsSome (find (λ (r : QueueRow). bytes_eq r.path path) queues) → IsUnder path leaf → IsIn (depth path) (map (λ q. depth q.path) (filter (above leaf) queues))
    row path g u =
        let v = value_of (find (λ (r : QueueRow). bytes_eq r.path path) queues) g in
        let f = found (λ (r : QueueRow). bytes_eq r.path path) queues (v.0) (v.1) in
        let same : (v.0).path ≡ path = (bytes_eq-Decides (v.0).path path).0 (f.1) in
        let up : above leaf (v.0) ≡ true = ap (λ p. is_under p leaf) same ∙ is_under_it path leaf u in
        subst (λ p. IsIn (depth p) (map (λ q. depth q.path) (filter (above leaf) queues))) same (in_map (λ (q : QueueRow). depth q.path) (filter (above leaf) queues) (v.0) (in_filter (above leaf) queues (v.0) (f.0) up))

    its_row : (x : QueueRow) × IsIn x queues × (x.path ≡ leaf)
    its_row =
        let v = value_of (find (λ (r : QueueRow). bytes_eq r.path leaf) queues) h in
        let f = found (λ (r : QueueRow). bytes_eq r.path leaf) queues (v.0) (v.1) in
        (v.0, f.0, (bytes_eq-Decides (v.0).path leaf).0 (f.1))

    by : {k : ℕ} → (k < depth leaf) ⊎ (depth leaf ≤ k) → k < 0 + (depth leaf + 1) → IsIn k (map (λ q. depth q.path) (filter (above leaf) queues))
    by {k = k} (inl below) b =
        let f = front_at leaf k below in
        let there = each_of (λ (q : QueueRow). (front rest : List ℕ) → q.path ≡ front ++ 46 ∷ rest → IsSome (find (λ r. bytes_eq r.path front) queues)) queues t.above (its_row.0) (its_row.1) (f.0) (f.1) (its_row.2 ∙ f.2) in
        subst (λ n. IsIn n (map (λ q. depth q.path) (filter (above leaf) queues))) (f.3) (row (f.0) there (inr (f.1, f.2)))
    by {k = k} (inr past) b =
        let same : depth leaf ≡ k = omega (arith, past, b) in
        subst (λ n. IsIn n (map (λ q. depth q.path) (filter (above leaf) queues))) same (row leaf h (inl refl))
