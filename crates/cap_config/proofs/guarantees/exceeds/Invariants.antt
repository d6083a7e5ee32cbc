use Rattle.std.proofs.Common.{ℕ, ◌<◌, ◌≤◌, get_or}
use Rattle.cap_config.proofs.guarantees.exceeds.Given as goal

-- none of the amounts so far is more
abbrev pub invariant-loop-k : goal.invariant-loop-k
invariant-loop-k l = (j : ℕ) → j < l.k → get_or l.a j 0 ≤ get_or l.b j 0
