use Rattle.cap_asks.proofs.Prelude.{◌≡◌, ◌≤◌, ℕ, length, get_or}
use Rattle.cap_asks.proofs.least.resized.Given as goal

-- as many amounts as there are to be, none more than the one given
abbrev pub invariant-loop-k : goal.invariant-loop-k
invariant-loop-k g l = record {
  long : length l.amounts ≡ g.row.L;
  each : (j : ℕ) → get_or l.amounts j 0 ≤ get_or l.given j 0;
}
