use Rattle.cap_lanes.proofs.Moves.{joins}
use Rattle.cap_lanes.proofs.taking.gather.Goals as goal

pub absorb-requires-clause-rule : goal.absorb-requires-clause-rule
absorb-requires-clause-rule c = joins _ _ _ _
