use Rattle.std.proofs.Common.{◌∙◌}
use Rattle.cap_nodes.proofs.ByNumber.{found_by_hash}
use Rattle.cap_nodes.proofs.present.Present.get.Goals as goal

pub returns : goal.returns
returns g c = rw (← c.self.view_is) (c.get.ensures.value ∙ found_by_hash c.self.invariant.0 c.args.number)
