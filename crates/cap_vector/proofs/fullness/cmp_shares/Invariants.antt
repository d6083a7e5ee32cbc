use Rattle.std.proofs.Common.{◌≡◌, drop}
use Rattle.cap_vector.specs.Fullness.{shares_cmp}
use Rattle.cap_vector.proofs.fullness.cmp_shares.Given as goal

abbrev pub invariant-loop-k : goal.invariant-loop-k
invariant-loop-k g l = shares_cmp (drop l.k l.a-inside.shares) (drop l.k l.b-inside.shares) ≡ shares_cmp l.a-inside.shares l.b-inside.shares
