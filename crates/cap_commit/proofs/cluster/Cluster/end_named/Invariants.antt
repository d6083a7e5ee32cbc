use Rattle.cap_commit.proofs.Prelude.{owns, AreNamed}
use Rattle.cap_commit.specs.Owners.{TakesEndRoom}
use Rattle.cap_commit.proofs.cluster.Cluster.end_named.Given as goal

abbrev pub invariant-loop-number : goal.invariant-loop-number
invariant-loop-number g l = AreNamed l.cause (owns l.owner) l.fn.self.flat l.numbers l.self.flat l.ignored l.number-index × TakesEndRoom l.fn.self.accounts l.self.accounts
