use Rattle.std.proofs.Common.{arith}
use Rattle.cap_propose.proofs.choice.propose.Goals as goal

pub propose_on-requires : goal.propose_on-requires
propose_on-requires g c =
    let ask = c.requires.ask in
    (c.requires.proposal, (c.requires.snapshot, omega (arith, ask), c.requires.resource, c.requires.proposal))
