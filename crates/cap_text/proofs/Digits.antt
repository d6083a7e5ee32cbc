-- Numbers that digits spell.
use Rattle.cap_text.proofs.Prelude.{◌≡◌, ℕ, ◌^◌, ◌<◌, ◌≤◌, List, length, get_or, Bool, true, false, cond, Some, None, refl, arith, lit<, list_all, pow-le-pow_right, AllPass-from_list_all, and_parts, nat_tests, is_digit, is_number, decimal, number_of}

-- a digit of a list of digits
pub record IsDigit (b : ℕ) : Type 0 where
  pub least : 48 ≤ b
  pub most : b ≤ 57

pub digit_at : (digits : List ℕ) (i : ℕ) → list_all is_digit digits ≡ true → i < length digits → IsDigit (get_or digits i 0)
digit_at digits i all h =
    let here : is_digit (get_or digits i 0) ≡ true = AllPass-from_list_all is_digit digits all i 0 h in
    record { least = grind (arith, nat_tests, here); most = grind (arith, nat_tests, here) }

pub power_small : (i : ℕ) → i ≤ 18 → 10 ^ i ≤ 1000000000000000000
power_small i h = pow-le-pow_right {n = 10} (lit< tt) h

digits_when : (digits : List ℕ) (most n : ℕ) (test : Bool) → is_number most digits ≡ test → cond test (Some (decimal digits)) None ≡ Some n → list_all is_digit digits ≡ true
digits_when digits most n true is h = (and_parts _ (list_all is_digit digits) is).1
digits_when digits most n false is h = absurd (cc h)

-- what spells a number has digits alone
pub number_digits : (most : ℕ) (digits : List ℕ) (n : ℕ) → number_of most digits ≡ Some n → list_all is_digit digits ≡ true
unfolding number_of
number_digits most digits n h = digits_when digits most n (is_number most digits) refl h
