use Rattle.cap_commit.proofs.Prelude.{length, owns, containers_owned, AreEnding}
use Rattle.cap_commit.specs.Owners.{TakesEndRoom}
use Rattle.cap_commit.proofs.cluster.Cluster.end_all.Given as goal

abbrev pub invariant-loop-container : goal.invariant-loop-container
invariant-loop-container g l = AreEnding l.cause (owns l.owner) l.fn.self.flat l.self.flat l.ended × TakesEndRoom l.fn.self.accounts l.self.accounts

abbrev pub decreases-loop-container : goal.decreases-loop-container
decreases-loop-container g l = length (containers_owned l.owner l.self.flat)
