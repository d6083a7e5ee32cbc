-- Amounts that are more than others, amount by amount.
use Rattle.cap_config.proofs.Prelude.{◌≡◌, ℕ, ◌+◌, ◌<◌, ◌≤◌, List, get_or, true, false, ltb, refl, sym, ap, ◌∙◌, arith, range_with_len, false_from_ne_true, nat_tests, list_any_at, list_any_none, get_or-range_with_len, get_or-map-range_with_len, resources, by_amount, exceeds}

-- one amount of all that a function gives
pub amount_of_all : (f : ℕ → ℕ) (k : ℕ) → k < resources → get_or (by_amount resources f) k 0 ≡ f k
amount_of_all f k h = get_or-map-range_with_len f 0 resources k k 0 h (omega arith)

place : (k d : ℕ) → k < resources → get_or (range_with_len 0 resources) k d ≡ k
place k d h = get_or-range_with_len 0 resources k d h ∙ (let e : 0 + k ≡ k = omega arith in e)

-- one amount that is more
pub exceeds_at : (a b : List ℕ) (k : ℕ) → k < resources → ltb (get_or b k 0) (get_or a k 0) ≡ true → exceeds a b ≡ true
exceeds_at a b k h over =
    let test = λ (j : ℕ). ltb (get_or b j 0) (get_or a j 0) in
    list_any_at test (range_with_len 0 resources) k 0 h (ap test (place k 0 h) ∙ over)

-- amounts of which none is more
pub exceeds_not : (a b : List ℕ) → ((k : ℕ) → k < resources → get_or a k 0 ≤ get_or b k 0) → exceeds a b ≡ false
exceeds_not a b fits =
    let test = λ (j : ℕ). ltb (get_or b j 0) (get_or a j 0) in
    let no : (k : ℕ) → k < resources → test k ≡ false = λ k h. let f = fits k h in grind (arith, nat_tests) in
    list_any_none test (range_with_len 0 resources) (λ k d h. ap test (place k d h) ∙ no k h)

-- what is more, where each amount is more than the other just where it is more than a third
pub exceeds_same : (a b x y : List ℕ) → ((k : ℕ) → k < resources → ltb (get_or b k 0) (get_or a k 0) ≡ ltb (get_or y k 0) (get_or x k 0)) → exceeds a b ≡ exceeds x y
exceeds_same a b x y same = rw (same 0 (omega arith), same 1 (omega arith), same 2 (omega arith)) refl
