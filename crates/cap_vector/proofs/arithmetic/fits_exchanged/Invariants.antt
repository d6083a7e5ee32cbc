use Rattle.std.proofs.Common.{ℕ, ◌+◌, ◌-◌, ◌*◌, ◌<◌, ◌≤◌, get_or}
use Rattle.cap_vector.proofs.arithmetic.fits_exchanged.Given as goal

-- the amounts so far fit
abbrev pub invariant-loop-k : goal.invariant-loop-k
invariant-loop-k g l = (j : ℕ) → j < l.k → (get_or l.used-inside.amounts j 0 - get_or l.old-inside.amounts j 0) + get_or l.new-inside.amounts j 0 ≤ l.factor * get_or l.most-inside.amounts j 0
