-- Decimal numbers.
use Rattle.std.specs.Prelude.{ℕ, ◌+◌, ◌-◌, ◌*◌, List, length, Bool, ◌&&◌, nat_lt, nat_le, Option, Some, None, if◌then◌else◌}
use Rattle.std.specs.List.{list_all, fold}

abbrev pub is_digit : ℕ → Bool
is_digit b = nat_le 48 b && nat_le b 57

-- 1 to so many digits
abbrev pub is_number : ℕ → List ℕ → Bool
is_number most bytes = (nat_lt 0 (length bytes) && nat_le (length bytes) most) && list_all is_digit bytes

-- the number that digits spell
abbrev pub decimal : List ℕ → ℕ
decimal digits = fold (λ n digit. 10 * n + (digit - 48)) 0 digits

-- the number that 1 to so many digits spell
unfoldable pub number_of : ℕ → List ℕ → Option ℕ
number_of most bytes = if is_number most bytes then Some (decimal bytes) else None
