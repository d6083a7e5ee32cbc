use Rattle.std.proofs.Common.{◌≡◌, ◌+◌, ◌-◌, ℕ, ◌<◌, ◌≤◌, length, get_or}
use Rattle.cap_vector.proofs.arithmetic.exchanged.Given as goal

-- the amounts so far are those after the exchange, and within the bound
abbrev pub invariant-loop-k : goal.invariant-loop-k
invariant-loop-k g l = record {
  long : length l.amounts ≡ g.row.K;
  each : (j : ℕ) → j < l.k → get_or l.amounts j 0 ≡ (get_or l.a-inside.amounts j 0 - get_or l.old-inside.amounts j 0) + get_or l.new-inside.amounts j 0;
  within : (j : ℕ) → j < l.k → get_or l.amounts j 0 ≤ g.row.A;
}
