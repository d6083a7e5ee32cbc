use Rattle.std.proofs.Common.{◌≤◌, ◌<◌, ℕ, get_or}
use Rattle.cap_vector.proofs.vector.Amounts.new.Given as goal

abbrev pub invariant-loop-amount : goal.invariant-loop-amount
invariant-loop-amount g l = (k : ℕ) → k < l.amount-index → get_or l.amount-items k 0 ≤ g.row.MAX
