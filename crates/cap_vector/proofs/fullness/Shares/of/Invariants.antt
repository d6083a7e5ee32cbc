use Rattle.std.proofs.Common.{◌≡◌, ◌<◌, ℕ, length, get_or}
use Rattle.cap_vector.proofs.fullness.Shares.of.Given as goal

abbrev pub invariant-loop-k : goal.invariant-loop-k
invariant-loop-k g l = record {
  long : length l.shares ≡ g.row.K;
  each : (j : ℕ) → j < l.k → get_or l.shares j (record { used = 0; guaranteed = 0 }) ≡ record { used = get_or l.used-inside.amounts j 0; guaranteed = get_or l.guaranteed-inside.amounts j 0 };
}
