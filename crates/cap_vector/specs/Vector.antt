-- Vectors of amounts, as lists of numbers. A component that a list lacks counts as 0, so no definition here has a condition on lengths.
use Rattle.std.specs.Prelude.{◌≡◌, ℕ, ◌+◌, ◌-◌, ◌*◌, ◌≤◌, ◌⊎◌, List, [], ◌∷◌, length, slice_index, replicate, map, Bool, ◌==◌, nat_le}
use Rattle.std.specs.List.{list_all, range_with_len}

-- the greatest amount of a resource vector, and of a sum of use
abbrev pub amount_max : ℕ
amount_max = 1099511627776

abbrev pub sum_max : ℕ
sum_max = 2199023255552

-- the amount of resource k
abbrev pub amount : List ℕ → ℕ → ℕ
amount v k = slice_index v k

-- each amount is at most the bound
abbrev pub IsWithin : ℕ → List ℕ → Type 0
IsWithin bound v = (k : ℕ) → amount v k ≤ bound

-- k amounts, each at most the bound
pub record IsVector (k bound : ℕ) (v : List ℕ) : Type 0 where
  pub count : length v ≡ k
  pub within : IsWithin bound v

-- a resource vector, and a sum of use
abbrev pub IsResource : ℕ → List ℕ → Type 0
IsResource k v = IsVector k amount_max v

abbrev pub IsSum : ℕ → List ℕ → Type 0
IsSum k v = IsVector k sum_max v

-- each amount of a is at most that of b
abbrev pub Fits : List ℕ → List ℕ → Type 0
Fits a b = (k : ℕ) → amount a k ≤ amount b k

-- each amount of a is at most so many times that of b
abbrev pub FitsTimes : List ℕ → ℕ → List ℕ → Type 0
FitsTimes a factor b = (k : ℕ) → amount a k ≤ factor * amount b k

-- with old taken away and new added, each amount grows no more, or stays within the bound
abbrev pub StaysWithin : ℕ → List ℕ → List ℕ → List ℕ → Type 0
StaysWithin bound old new v = (k : ℕ) → (amount new k ≤ amount old k) ⊎ ((amount v k - amount old k) + amount new k ≤ bound)

-- whether each amount is at most the bound
abbrev pub is_within : ℕ → List ℕ → Bool
is_within bound v = list_all (λ x. nat_le x bound) v

-- 0 of each of k resources
abbrev pub zeros : ℕ → List ℕ
zeros k = replicate k 0

-- whether each amount is 0
abbrev pub is_zero : List ℕ → Bool
is_zero v = list_all (λ x. x == 0) v

-- the vector of k amounts that f gives
abbrev pub by_amount : ℕ → (ℕ → ℕ) → List ℕ
by_amount k f = map f (range_with_len 0 k)

-- amount by amount; the longer list goes on
unfoldable pub plus : List ℕ → List ℕ → List ℕ
plus [] b = b
plus (x ∷ a) [] = x ∷ a
plus (x ∷ a) (y ∷ b) = (x + y) ∷ plus a b

-- amount by amount, not below 0
unfoldable pub less : List ℕ → List ℕ → List ℕ
less [] b = []
less (x ∷ a) [] = x ∷ a
less (x ∷ a) (y ∷ b) = (x - y) ∷ less a b

-- with old taken away and new added
abbrev pub amounts_exchanged : List ℕ → List ℕ → List ℕ → List ℕ
amounts_exchanged old new v = plus (less v old) new
