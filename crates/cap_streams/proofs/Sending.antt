-- Bytes that are kept.
use Rattle.std.proofs.Common.{◌≡◌, ℕ, ◌-◌, ◌≤◌, List, [], length, drop, IsTrue, ◌↔◌, nat_le, sym, ap, ◌∙◌, arith}
use Rattle.std.proofs.lemmas.List.{drop_all, length-drop}
use Rattle.std.proofs.lemmas.Bool.Decides.{nat_tests}

none_left : (xs : List ℕ) (n : ℕ) → drop n xs ≡ [] → length xs ≤ n
none_left xs n h = let less : length xs - n ≡ 0 = sym (length-drop n xs) ∙ ap length h in omega (arith, less)

-- a list of so many has nothing past n exactly where there are at most n
pub none_left_test : (xs : List ℕ) (n len : ℕ) → len ≡ length xs → IsTrue (nat_le len n) ↔ (drop n xs ≡ [])
none_left_test xs n len is =
    (λ h. drop_all n xs (grind (arith, nat_tests, is, h)), λ h. let most = none_left xs n h in grind (arith, nat_tests, is, most))
