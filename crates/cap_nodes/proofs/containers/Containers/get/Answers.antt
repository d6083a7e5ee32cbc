use Rattle.std.proofs.Common.{◌∙◌}
use Rattle.cap_nodes.proofs.ByNumber.{found}
use Rattle.cap_nodes.proofs.containers.Containers.get.Goals as goal

pub returns : goal.returns
returns g c = rw (← c.self.view_is) (c.copied.ensures ∙ c.get.ensures.value ∙ found c.self.invariant.0 c.args.number)
