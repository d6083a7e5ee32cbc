-- Looking for an ask that is too large.
use Rattle.cap_masters.proofs.Prelude.{◌≡◌, ℕ, zero, suc, ◌+◌, ◌<◌, ◌≤◌, Bool, true, false, List, [], ◌∷◌, length, get_or, drop, sym, ◌∙◌, ap, arith, IsTrue, ◌↔◌, not, ◌&&◌, ◌||◌, nat_le, list_any, nat_tests, Fits, fits, Ask, Flat, is_too_large, and_false}
use Rattle.cap_masters.proofs.Refused.{fits_is}

step : {A : Type 0} (test : A → Bool) (xs : List A) (i : ℕ) (x : A) → i < length xs → x ≡ get_or xs i x → list_any test (drop i xs) ≡ (test x || list_any test (drop (i + 1) xs))
step test [] i x more e = absurd (omega (arith, more))
step test (y ∷ xs) zero x more e = ap (λ z. test z || list_any test xs) (sym e)
step test (y ∷ xs) (suc i) x more e =
    let next : suc (i + 1) ≡ suc i + 1 = omega arith in
    step test xs i x (omega (arith, more)) e ∙ ap (λ n. test x || list_any test (drop n (y ∷ xs))) next

module _ {K : ℕ} (cluster : Flat K) (asks : List Ask) (i : ℕ) (ask : Ask) (more : i < length asks) (item : ask ≡ get_or asks i ask) (so_far : list_any (is_too_large cluster) asks ≡ list_any (is_too_large cluster) (drop i asks)) where
  pub here : is_too_large cluster ask ≡ true → true ≡ list_any (is_too_large cluster) asks
  here e = sym (so_far ∙ step (is_too_large cluster) asks i ask more item ∙ ap (λ b. b || list_any (is_too_large cluster) (drop (i + 1) asks)) e)

  pub not_here : is_too_large cluster ask ≡ false → list_any (is_too_large cluster) asks ≡ list_any (is_too_large cluster) (drop (i + 1) asks)
  not_here e = so_far ∙ step (is_too_large cluster) asks i ask more item ∙ ap (λ b. b || list_any (is_too_large cluster) (drop (i + 1) asks)) e

pub large : {K : ℕ} (cluster : Flat K) (ask : Ask) (b : Bool) (count : ℕ) (resource most : List ℕ) → count ≡ ask.count → resource ≡ ask.resource → most ≡ cluster.settings.maximum_allocation → 0 < count → (IsTrue b ↔ Fits resource most) → b ≡ false → is_too_large cluster ask ≡ true
large cluster ask b count resource most e f g some h low =
    let at_least : nat_le 1 ask.count ≡ true = grind (arith, nat_tests, e, some) in
    let fit : fits ask.resource cluster.settings.maximum_allocation ≡ false = (λ j. fits (sym f j) (sym g j)) ∙ sym (fits_is b resource most h) ∙ low in
    λ j. at_least j && not (fit j)

pub fitting : {K : ℕ} (cluster : Flat K) (ask : Ask) (b : Bool) (resource most : List ℕ) → resource ≡ ask.resource → most ≡ cluster.settings.maximum_allocation → (IsTrue b ↔ Fits resource most) → b ≡ true → is_too_large cluster ask ≡ false
fitting cluster ask b resource most f g h high =
    let fit : fits ask.resource cluster.settings.maximum_allocation ≡ true = (λ j. fits (sym f j) (sym g j)) ∙ sym (fits_is b resource most h) ∙ high in
    ap (λ c. nat_le 1 ask.count && not c) fit ∙ and_false (nat_le 1 ask.count)

pub none_wanted : {K : ℕ} (cluster : Flat K) (ask : Ask) (count : ℕ) → count ≡ ask.count → count ≤ 0 → is_too_large cluster ask ≡ false
none_wanted cluster ask count e none =
    let zero : nat_le 1 ask.count ≡ false = grind (arith, nat_tests, e, none) in
    ap (λ c. c && not (fits ask.resource cluster.settings.maximum_allocation)) zero
