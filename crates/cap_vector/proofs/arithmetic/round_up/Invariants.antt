use Rattle.std.proofs.Common.{◌≡◌, ℕ, ◌<◌, length, get_or}
use Rattle.std.specs.Prelude.{min}
use Rattle.cap_vector.specs.Rounding.{raised_amount}
use Rattle.cap_vector.proofs.arithmetic.round_up.Given as goal

-- the amounts so far are raised and cut
abbrev pub invariant-loop-k : goal.invariant-loop-k
invariant-loop-k g l = record {
  long : length l.rounded ≡ g.row.K;
  each : (j : ℕ) → j < l.k → get_or l.rounded j 0 ≡ min (raised_amount (get_or l.amounts-inside.amounts j 0) (get_or l.step-inside.amounts j 0)) (get_or l.most-inside.amounts j 0);
}
