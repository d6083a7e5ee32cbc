use Rattle.cap_config.proofs.Prelude.{◌≡◌, ◌+◌, ℕ, ◌<◌, get_or, length, resources, capped}
use Rattle.cap_config.proofs.guarantees.added.Given as goal

-- the sums of the amounts so far
abbrev pub invariant-loop-k : goal.invariant-loop-k
invariant-loop-k l = record {
  long : length l.sums ≡ resources;
  each : (j : ℕ) → j < l.k → get_or l.sums j 0 ≡ capped (get_or l.amounts j 0 + get_or l.more j 0);
}
