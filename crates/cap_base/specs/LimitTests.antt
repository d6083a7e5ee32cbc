-- Whether a use is within what limits it: a queue's maximum, and what one user may take of a leaf.
use Rattle.std.specs.Prelude.{ℕ, List, Bool, ◌||◌, Option, is_none}
use Rattle.cap_base.specs.Cascade.{holds_of}
use Rattle.cap_base.specs.Amounts.{fits, times}

-- whether a use is within the maximum of a queue, where it has one
abbrev pub fits_maximum : Option (List ℕ) → List ℕ → Bool
fits_maximum maximum used = is_none maximum || holds_of (fits used) maximum

-- whether the use of a user is within a leaf's user limit factor times its guarantee
abbrev pub fits_user_limit : ℕ → List ℕ → List ℕ → Bool
fits_user_limit factor guaranteed used = fits used (times factor guaranteed)
