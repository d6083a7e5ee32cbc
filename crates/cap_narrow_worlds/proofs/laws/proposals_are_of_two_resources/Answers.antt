use Rattle.cap_narrow_worlds.proofs.Worlds.{proposals_are_of_two_resources}
use Rattle.cap_narrow_worlds.proofs.laws.proposals_are_of_two_resources.Goals as goal

pub returns : goal.returns
returns c = proposals_are_of_two_resources c.proposals_are_of_copies.ensures.proposed
