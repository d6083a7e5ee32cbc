-- Vectors whose last amount is 0, and their first amounts.
use Rattle.cap_narrow.proofs.Prelude.{◌≡◌, ℕ, zero, suc, ◌+◌, ◌-◌, ◌*◌, ◌<◌, Bool, true, false, List, [], ◌∷◌, ◌++◌, length, take, refl, sym, ◌∙◌, ap, arith, Some, None, ◌==◌, ◌&&◌, nat_le, min, max, map, cond, if◌then◌else◌, range_with_len, nat_cmp, is_lt, ordering_then, Equal, slice_cmp, nat_tests, get_or-take, Share, amount, by_amount, plus, less, is_within, is_zero, raised_amount, share_cmp, fractions, put_share, greatest_first, shares, shares_cmp, fits, times, sum_where, part, sum_by_agree, amount_of, length-map-range_with_len, EndsInNone, FitsNarrow, MaximumNarrow, UserLimitNarrow, ExchangedNarrow, TimesNarrow, RoundingNarrow, RoundingEndsInNone, FullnessNarrow, SameNarrow}

pub take_nothing : (K : ℕ) → take {A = ℕ} K [] ≡ []
take_nothing zero = refl
take_nothing (suc K) = refl

-- the tail of such a vector is one too
tail_ends : (K x : ℕ) (v : List ℕ) → EndsInNone (suc K) (x ∷ v) → EndsInNone K v
tail_ends K x v e = record { count = omega (arith, e.count); none = e.none }

-- what fits
pub fits_narrow : FitsNarrow
fits_narrow zero [] b h = refl
fits_narrow zero (x ∷ []) [] h = grind (arith, nat_tests, h.none)
fits_narrow zero (x ∷ []) (y ∷ b) h = grind (arith, nat_tests, h.none)
fits_narrow zero (x ∷ y ∷ a) b h = absurd (omega (arith, h.count))
fits_narrow (suc K) [] b h = refl
fits_narrow (suc K) (x ∷ a) [] h =
    ap (λ v. x == 0 && fits (take K a) v) (sym (take_nothing K)) ∙ ap (λ t. x == 0 && t) (fits_narrow K a [] (tail_ends K x a h))
fits_narrow (suc K) (x ∷ a) (y ∷ b) h = ap (λ t. nat_le x y && t) (fits_narrow K a b (tail_ends K x a h))

pub maximum_narrow : MaximumNarrow
maximum_narrow K None used h = refl
maximum_narrow K (Some most) used h = fits_narrow K used most h

-- sums and differences
pub less_narrow : (K : ℕ) (a b : List ℕ) → less (take K a) (take K b) ≡ take K (less a b)
unfolding less
less_narrow zero [] b = refl
less_narrow zero (x ∷ a) [] = refl
less_narrow zero (x ∷ a) (y ∷ b) = refl
less_narrow (suc K) [] b = refl
less_narrow (suc K) (x ∷ a) [] = refl
less_narrow (suc K) (x ∷ a) (y ∷ b) = ap (λ v. (x - y) ∷ v) (less_narrow K a b)

pub plus_narrow : (K : ℕ) (a b : List ℕ) → plus (take K a) (take K b) ≡ take K (plus a b)
unfolding plus
plus_narrow zero [] b = refl
plus_narrow zero (x ∷ a) [] = refl
plus_narrow zero (x ∷ a) (y ∷ b) = refl
plus_narrow (suc K) [] b = refl
plus_narrow (suc K) (x ∷ a) [] = refl
plus_narrow (suc K) (x ∷ a) (y ∷ b) = ap (λ v. (x + y) ∷ v) (plus_narrow K a b)

pub exchanged_narrow : ExchangedNarrow
exchanged_narrow K old new v = ap (λ u. plus u (take K new)) (less_narrow K v old) ∙ plus_narrow K (less v old) new

pub times_narrow : TimesNarrow
times_narrow zero factor v = refl
times_narrow (suc K) factor [] = refl
times_narrow (suc K) factor (x ∷ v) = ap (λ u. (factor * x) ∷ u) (times_narrow K factor v)

pub user_limit_narrow : UserLimitNarrow
user_limit_narrow K factor guaranteed used h = ap (fits (take K used)) (times_narrow K factor guaranteed) ∙ fits_narrow K used (times factor guaranteed) h

-- computed vectors
range_narrow : (f : ℕ → ℕ) (a n : ℕ) → take n (map f (range_with_len a (suc n))) ≡ map f (range_with_len a n)
range_narrow f a zero = refl
range_narrow f a (suc n) = ap (λ v. f a ∷ v) (range_narrow f (a + 1) n)

range_same : (f g : ℕ → ℕ) (a n : ℕ) → ((k : ℕ) → k < a + n → f k ≡ g k) → map f (range_with_len a n) ≡ map g (range_with_len a n)
range_same f g a zero h = refl
range_same f g a (suc n) h = λ i. h a (omega arith) i ∷ range_same f g (a + 1) n (λ k l. h k (omega (arith, l))) i

computed_narrow : (K : ℕ) (f g : ℕ → ℕ) → ((k : ℕ) → k < K → f k ≡ g k) → by_amount K f ≡ take K (by_amount (suc K) g)
computed_narrow K f g h = range_same f g 0 K (λ k l. h k (omega (arith, l))) ∙ sym (range_narrow g 0 K)

pub sums_narrow : {X : Type 0} (K : ℕ) (test : X → Bool) (of : X → List ℕ) (items : List X) → sum_where K test (λ x. take K (of x)) items ≡ take K (sum_where (suc K) test of items)
sums_narrow {X} K test of items =
    computed_narrow K (part test (λ x. take K (of x)) items) (part test of items)
    (λ k l. sum_by_agree (λ (x : X). if test x then amount (take K (of x)) k else 0) (λ x. if test x then amount (of x) k else 0) items
    (λ x m. ap (λ n. if test x then n else 0) (get_or-take K (of x) k 0 l)))

pub rounding_narrow : RoundingNarrow
rounding_narrow K v step most =
    computed_narrow K (λ k. min (raised_amount (amount (take K v) k) (amount (take K step) k)) (amount (take K most) k)) (λ k. min (raised_amount (amount v k) (amount step k)) (amount most k))
    (λ k l. λ i. min (raised_amount (get_or-take K v k 0 l i) (get_or-take K step k 0 l i)) (get_or-take K most k 0 l i))

pub rounding_ends : RoundingEndsInNone
rounding_ends K v step most h s =
    let f : ℕ → ℕ = λ k. min (raised_amount (amount v k) (amount step k)) (amount most k) in
    record {
      count = length-map-range_with_len f 0 (suc K);
      none = amount_of (suc K) f K (omega arith) ∙ (λ i. min (raised_amount (h.none i) (s.none i)) (amount most K)) ∙ zero_least (amount most K);
    }
  where
    zero_least : (n : ℕ) → min 0 n ≡ 0
    zero_least n = grind arith

-- fullness: the fraction of what is not used is the least, so it stands last
not_less : (x : Share) (g : ℕ) → is_lt (share_cmp x (record { used = 0; guaranteed = g })) ≡ false
not_less x g = by (x.used * max 1 g) (0 * max 1 x.guaranteed) (grind arith)
  where
    by : (m n : ℕ) → n ≡ 0 → is_lt (nat_cmp m n) ≡ false
    by m n e = grind (arith, nat_tests, e)

put_last : (x : Share) (ys : List Share) (g : ℕ) → put_share x (ys ++ record { used = 0; guaranteed = g } ∷ []) ≡ put_share x ys ++ record { used = 0; guaranteed = g } ∷ []
put_last x [] g = ap (λ b. cond b (record { used = 0; guaranteed = g } ∷ x ∷ []) (x ∷ record { used = 0; guaranteed = g } ∷ [])) (not_less x g)
put_last x (y ∷ ys) g = by (is_lt (share_cmp x y)) (put_last x ys g)
  where
    by : (b : Bool) → put_share x (ys ++ record { used = 0; guaranteed = g } ∷ []) ≡ put_share x ys ++ record { used = 0; guaranteed = g } ∷ [] →
        cond b (y ∷ put_share x (ys ++ record { used = 0; guaranteed = g } ∷ [])) (x ∷ y ∷ ys ++ record { used = 0; guaranteed = g } ∷ [])
        ≡ cond b (y ∷ put_share x ys) (x ∷ y ∷ ys) ++ record { used = 0; guaranteed = g } ∷ []
    by true e = ap (λ zs. y ∷ zs) e
    by false e = refl

greatest_last : (xs : List Share) (g : ℕ) → greatest_first (xs ++ record { used = 0; guaranteed = g } ∷ []) ≡ greatest_first xs ++ record { used = 0; guaranteed = g } ∷ []
greatest_last [] g = refl
greatest_last (x ∷ xs) g = ap (put_share x) (greatest_last xs g) ∙ put_last x (greatest_first xs) g

fractions_last : (K : ℕ) (u g : List ℕ) → EndsInNone K u → length g ≡ suc K → fractions u g ≡ fractions (take K u) (take K g) ++ record { used = 0; guaranteed = amount g K } ∷ []
fractions_last zero [] g h l = absurd (omega (arith, h.count))
fractions_last zero (x ∷ []) [] h l = absurd (omega (arith, l))
fractions_last zero (x ∷ []) (y ∷ []) h l = λ i. record { used = h.none i; guaranteed = y } ∷ []
fractions_last zero (x ∷ []) (y ∷ z ∷ g) h l = absurd (omega (arith, l))
fractions_last zero (x ∷ y ∷ u) g h l = absurd (omega (arith, h.count))
fractions_last (suc K) [] g h l = absurd (omega (arith, h.count))
fractions_last (suc K) (x ∷ u) [] h l = absurd (omega (arith, l))
fractions_last (suc K) (x ∷ u) (y ∷ g) h l = ap (λ s. record { used = x; guaranteed = y } ∷ s) (fractions_last K u g (tail_ends K x u h) (omega (arith, l)))

shares_last : (K : ℕ) (u g : List ℕ) → EndsInNone K u → length g ≡ suc K → shares u g ≡ shares (take K u) (take K g) ++ record { used = 0; guaranteed = amount g K } ∷ []
shares_last K u g h l = ap greatest_first (fractions_last K u g h l) ∙ greatest_last (fractions (take K u) (take K g)) (amount g K)

length-put : (x : Share) (ys : List Share) → length (put_share x ys) ≡ suc (length ys)
length-put x [] = refl
length-put x (y ∷ ys) = by (is_lt (share_cmp x y)) (length-put x ys)
  where
    by : (b : Bool) → length (put_share x ys) ≡ suc (length ys) → length (cond b (y ∷ put_share x ys) (x ∷ y ∷ ys)) ≡ suc (suc (length ys))
    by true e = omega (arith, e)
    by false e = refl

length-greatest : (xs : List Share) → length (greatest_first xs) ≡ length xs
length-greatest [] = refl
length-greatest (x ∷ xs) = length-put x (greatest_first xs) ∙ ap suc (length-greatest xs)

length-first : (K : ℕ) (u g : List ℕ) → length u ≡ suc K → length g ≡ suc K → length (fractions (take K u) (take K g)) ≡ K
length-first zero u g h l = refl
length-first (suc K) [] g h l = absurd (omega (arith, h))
length-first (suc K) (x ∷ u) [] h l = absurd (omega (arith, l))
length-first (suc K) (x ∷ u) (y ∷ g) h l = ap suc (length-first K u g (omega (arith, h)) (omega (arith, l)))

none_equal : (g h : ℕ) → share_cmp (record { used = 0; guaranteed = g }) (record { used = 0; guaranteed = h }) ≡ Equal
none_equal g h = by (0 * max 1 h) (0 * max 1 g) (grind arith)
  where
    by : (m n : ℕ) → m ≡ n → nat_cmp m n ≡ Equal
    by m n e = grind (arith, nat_tests, e)

cmp_last : (xs ys : List Share) (z w : Share) → length xs ≡ length ys → share_cmp z w ≡ Equal → slice_cmp share_cmp (xs ++ z ∷ []) (ys ++ w ∷ []) ≡ slice_cmp share_cmp xs ys
cmp_last [] [] z w l e = ap (λ o. ordering_then o Equal) e
cmp_last [] (y ∷ ys) z w l e = absurd (omega (arith, l))
cmp_last (x ∷ xs) [] z w l e = absurd (omega (arith, l))
cmp_last (x ∷ xs) (y ∷ ys) z w l e = ap (ordering_then (share_cmp x y)) (cmp_last xs ys z w (omega (arith, l)) e)

pub fullness_narrow : FullnessNarrow
fullness_narrow K u g v h eu ev lg lh =
    let a : Share = record { used = 0; guaranteed = amount g K } in
    let b : Share = record { used = 0; guaranteed = amount h K } in
    let xs = shares (take K u) (take K g) in
    let ys = shares (take K v) (take K h) in
    let many = length-greatest (fractions (take K u) (take K g)) ∙ length-first K u g eu.count lg in
    let same = length-greatest (fractions (take K v) (take K h)) ∙ length-first K v h ev.count lh in
    sym ((λ i. shares_cmp (shares_last K u g eu lg i) (shares_last K v h ev lh i)) ∙ cmp_last xs ys a b (many ∙ sym same) (none_equal (amount g K) (amount h K)))

-- the same vector
pub same_narrow : SameNarrow
same_narrow zero [] b h k = absurd (omega (arith, h.count))
same_narrow zero (x ∷ []) [] h k = absurd (omega (arith, k.count))
same_narrow zero (x ∷ []) (y ∷ []) h k = grind (arith, nat_tests, h.none, k.none)
same_narrow zero (x ∷ []) (y ∷ z ∷ b) h k = absurd (omega (arith, k.count))
same_narrow zero (x ∷ y ∷ a) b h k = absurd (omega (arith, h.count))
same_narrow (suc K) [] b h k = absurd (omega (arith, h.count))
same_narrow (suc K) (x ∷ a) [] h k = absurd (omega (arith, k.count))
same_narrow (suc K) (x ∷ a) (y ∷ b) h k = ap (λ t. x == y && t) (same_narrow K a b (tail_ends K x a h) (tail_ends K y b k))

pub ends_within : (K : ℕ) (f : ℕ → ℕ) → f K ≡ 0 → EndsInNone K (by_amount (suc K) f)
ends_within K f e = record { count = length-map-range_with_len f 0 (suc K); none = amount_of (suc K) f K (omega arith) ∙ e }

pub within_narrow : (bound K : ℕ) (v : List ℕ) → EndsInNone K v → is_within bound (take K v) ≡ is_within bound v
within_narrow bound zero [] h = absurd (omega (arith, h.count))
within_narrow bound zero (x ∷ []) h = grind (arith, nat_tests, h.none)
within_narrow bound zero (x ∷ y ∷ v) h = absurd (omega (arith, h.count))
within_narrow bound (suc K) [] h = refl
within_narrow bound (suc K) (x ∷ v) h = ap (λ t. nat_le x bound && t) (within_narrow bound K v (tail_ends K x v h))

pub zero_narrow : (K : ℕ) (v : List ℕ) → EndsInNone K v → is_zero (take K v) ≡ is_zero v
zero_narrow zero [] h = absurd (omega (arith, h.count))
zero_narrow zero (x ∷ []) h = grind (arith, nat_tests, h.none)
zero_narrow zero (x ∷ y ∷ v) h = absurd (omega (arith, h.count))
zero_narrow (suc K) [] h = refl
zero_narrow (suc K) (x ∷ v) h = ap (λ t. x == 0 && t) (zero_narrow K v (tail_ends K x v h))
