-- The sums of the capacities of the queues below.
use Rattle.cap_config.proofs.Prelude.{◌≡◌, ℕ, ◌+◌, ◌<◌, ◌≤◌, List, [], length, get_or, take, false, ltb, refl, sym, ap, ◌∙◌, arith, nat_tests, sum_by_more, resources, amount_max, by_amount, Entry, bytes_eq, root, guaranteed, child, exceeds, guaranteed_below, is_overspent, sum_below, added_below, capped}
use Rattle.cap_config.proofs.Exceeding.{amount_of_all, exceeds_not, exceeds_same}

capped_more : (s g : ℕ) → capped (capped s + g) ≡ capped (s + g)
capped_more s g = grind (arith, nat_tests)

-- the sums with one name more
pub sums_more : (entries : List Entry) (path : List ℕ) (names : List (List ℕ)) (i : ℕ) (name guarantee sums : List ℕ) → i < length names → name ≡ get_or names i name →
    guarantee ≡ guaranteed entries (child path name) → sums ≡ added_below entries path (take i names) →
    by_amount resources (λ k. capped (get_or sums k 0 + get_or guarantee k 0)) ≡ added_below entries path (take (i + 1) names)
sums_more entries path names i name guarantee sums h is g so_far =
    let each : (k : ℕ) → k < resources → capped (get_or sums k 0 + get_or guarantee k 0) ≡ capped (sum_below entries path (take (i + 1) names) k) =
    λ k small.
    let before = ap (λ (x : List ℕ). get_or x k 0) so_far ∙ amount_of_all (λ j. capped (sum_below entries path (take i names) j)) k small in
    let here = ap (λ (x : List ℕ). get_or x k 0) (g ∙ ap (λ n. guaranteed entries (child path n)) is) in
    let all = sum_by_more (λ (n : List ℕ). get_or (guaranteed entries (child path n)) k 0) names i name h in
    rw (before, here, all) (capped_more _ _) in
    rw (each 0 (omega arith), each 1 (omega arith), each 2 (omega arith)) refl

over_capped : (m s : ℕ) → m ≤ amount_max → ltb m (capped s) ≡ ltb m s
over_capped m s h = grind (arith, nat_tests)

-- a sum that is more than an amount is also more where it is capped
pub capped_spend : (entries : List Entry) (path sums most : List ℕ) (names : List (List ℕ)) → bytes_eq path root ≡ false → sums ≡ added_below entries path names → most ≡ guaranteed entries path →
    ((k : ℕ) → get_or most k 0 ≤ amount_max) → exceeds sums most ≡ is_overspent entries path names
capped_spend entries path sums most names other is own bounded =
    exceeds_same sums most (guaranteed_below entries path names) (guaranteed entries path)
    (λ k small.
    ap (λ (x : List ℕ). ltb (get_or most k 0) (get_or x k 0)) is
    ∙ ap (ltb (get_or most k 0)) (amount_of_all (λ j. capped (sum_below entries path names j)) k small)
    ∙ over_capped (get_or most k 0) (sum_below entries path names k) (bounded k)
    ∙ ap (ltb (get_or most k 0)) (sym (amount_of_all (sum_below entries path names) k small))
    ∙ ap (λ (x : List ℕ). ltb (get_or x k 0) (get_or (guaranteed_below entries path names) k 0)) own)
    ∙ rw other refl

-- no queue is guaranteed anything
pub none_below : (entries : List Entry) (path most : List ℕ) → exceeds (guaranteed_below entries path []) most ≡ false
none_below entries path most = exceeds_not (guaranteed_below entries path []) most (λ k small. let e = amount_of_all (λ j. 0) k small in omega (arith, e))
