use Rattle.cap_lanes.proofs.Moves.{begins}
use Rattle.cap_lanes.proofs.making.lanes.Goals as goal

pub bounded_with-made-requires-clause-rule : goal.bounded_with-made-requires-clause-rule
bounded_with-made-requires-clause-rule c = begins
