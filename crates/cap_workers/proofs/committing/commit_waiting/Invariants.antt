use Rattle.cap_workers.proofs.Prelude.{◌≡◌, ◌++◌, length}
use Rattle.cap_workers.specs.Committing.{CommitsTaken, held_in}
use Rattle.cap_workers.proofs.Outcomes.{EmptyFrom}
use Rattle.cap_workers.proofs.committing.commit_waiting.Given as goal

-- what was taken so far, and what came of it
abbrev pub invariant-loop : goal.invariant-loop
invariant-loop g l = record {
  lanes : l.committer.lanes ≡ l.fn.committer.lanes;
  taken : CommitsTaken g.J.Naming.limit l.fn.seat l.seat l.fn.committer l.committer (held_in l.outcomes);
  posted : l.posted ≡ l.fn.posted ++ held_in l.outcomes;
  empty : EmptyFrom l.count l.outcomes;
  eight : length l.outcomes ≡ 8;
}
