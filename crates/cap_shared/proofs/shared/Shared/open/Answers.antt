use Rattle.std.proofs.Common.{length, ap, ◌∙◌}
use Rattle.cap_shared.proofs.Lists.{length-fresh}
use Rattle.cap_shared.proofs.shared.Shared.open.Goals as goal

pub returns-clause-count : goal.returns-clause-count
returns-clause-count g c = ap length c.in-Ok.ensures.seats ∙ length-fresh 0 _
