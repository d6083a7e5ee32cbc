use Rattle.std.proofs.Common.{◌≡◌, ℕ, ◌<◌, length, get_or}
use Rattle.std.specs.Prelude.{max}
use Rattle.cap_nodes.proofs.present.greater.Given as goal

-- the amounts so far are the greater ones
abbrev pub invariant-loop-k : goal.invariant-loop-k
invariant-loop-k g l = record {
  long : length l.amounts ≡ g.row.K;
  each : (j : ℕ) → j < l.k → get_or l.amounts j 0 ≡ max (get_or l.firsts j 0) (get_or l.seconds j 0);
}
