-- Fullness: how full a use makes a guarantee, compared by the dominant share first.
use Rattle.std.specs.Prelude.{ℕ, ◌*◌, max, List, [], ◌∷◌, if◌then◌else◌}
use Rattle.std.specs.Ordering.{nat_cmp, is_lt}
use Rattle.std.specs.declared.cmp.Ordering.{Ordering}
use Rattle.std.specs.Cmp.Lexicographic.{slice_cmp}
use Rattle.cap_vector.specs.declared.fullness.Share.{Share}

-- two fractions used / max(1, guaranteed) compared by whole numbers, as cross products
abbrev pub share_cmp : Share → Share → Ordering
share_cmp a b = nat_cmp (a.used * max 1 b.guaranteed) (b.used * max 1 a.guaranteed)

-- the fraction of each resource in turn
abbrev pub fractions : List ℕ → List ℕ → List Share
fractions [] gs = []
fractions (u ∷ us) [] = []
fractions (u ∷ us) (g ∷ gs) = record { used = u; guaranteed = g } ∷ fractions us gs

-- the falling list with one more share, before the first that is not greater
abbrev pub put_share : Share → List Share → List Share
put_share x [] = x ∷ []
put_share x (y ∷ ys) = if is_lt (share_cmp x y) then y ∷ put_share x ys else x ∷ y ∷ ys

-- the same shares, the greatest first
abbrev pub greatest_first : List Share → List Share
greatest_first [] = []
greatest_first (x ∷ xs) = put_share x (greatest_first xs)

-- the fullness of a use against a guarantee: its shares, the dominant share first
abbrev pub shares : List ℕ → List ℕ → List Share
shares used guaranteed = greatest_first (fractions used guaranteed)

-- the order of fullness: the first shares that differ decide
abbrev pub shares_cmp : List Share → List Share → Ordering
shares_cmp = slice_cmp share_cmp
