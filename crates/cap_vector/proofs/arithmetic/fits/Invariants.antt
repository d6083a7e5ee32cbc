use Rattle.std.proofs.Common.{ℕ, ◌<◌, ◌≤◌, get_or}
use Rattle.cap_vector.proofs.arithmetic.fits.Given as goal

-- the amounts so far fit
abbrev pub invariant-loop-k : goal.invariant-loop-k
invariant-loop-k g l = (j : ℕ) → j < l.k → get_or l.a-inside.amounts j 0 ≤ get_or l.b-inside.amounts j 0
