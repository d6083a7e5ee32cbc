use Rattle.cap_lanes.proofs.Prelude.{◌≤◌, ◌+◌, length, vec_capacity, receives_on, view, IsSeatAt}
use Rattle.cap_lanes.proofs.Tallies.{weight, IsSoFar}
use Rattle.cap_lanes.proofs.taking.take_rest.Given as goal

-- what was taken since the start is what is left, and there is room for the rest
abbrev pub invariant-loop : goal.invariant-loop
invariant-loop g l = record {
  front : IsSeatAt (receives_on l.front) l.pass;
  so_far : IsSoFar (view l.fn.pass) (view l.pass) l.left.items;
  weight : weight (view l.fn.pass).lanes ≤ length (view l.fn.pass).took + 1024;
  room : 1024 ≤ vec_capacity l.left;
}
