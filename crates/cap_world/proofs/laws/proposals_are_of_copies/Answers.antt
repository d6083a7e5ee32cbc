use Rattle.cap_world.proofs.Working.{proposals_of_copies, copied_choices}
use Rattle.cap_world.proofs.laws.proposals_are_of_copies.Goals as goal

pub returns-clause-proposed : goal.returns-clause-proposed
returns-clause-proposed c = proposals_of_copies

pub returns-clause-made : goal.returns-clause-made
returns-clause-made c = copied_choices
