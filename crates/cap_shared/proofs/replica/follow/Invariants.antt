use Rattle.cap_shared.proofs.Prelude.{◌≡◌, Replays}
use Rattle.std.proofs.Common.{take, drop}
use Rattle.cap_shared.specs.Following.{Leads}
use Rattle.cap_shared.proofs.replica.follow.Given as goal

-- the first so many are made again, and the rest lead on
abbrev pub invariant-loop-deed : goal.invariant-loop-deed
invariant-loop-deed l = record {
  count : l.made ≡ l.deed-index;
  run : Replays l.fn.cluster.flat (take l.deed-index l.news) l.cluster.flat;
  rest : Leads l.cluster.flat (drop l.deed-index l.news);
}
