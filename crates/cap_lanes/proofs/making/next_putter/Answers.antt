use Rattle.cap_lanes.proofs.Moves.{splits}
use Rattle.cap_lanes.proofs.making.next_putter.Goals as goal

pub another-own-requires-clause-rule : goal.another-own-requires-clause-rule
another-own-requires-clause-rule c = splits _ _
