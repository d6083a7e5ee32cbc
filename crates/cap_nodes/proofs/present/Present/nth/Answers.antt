use Rattle.std.specs.Map.{values_of}
use Rattle.cap_nodes.proofs.Presents.{nth_found}
use Rattle.cap_nodes.proofs.present.Present.nth.Goals as goal

pub returns-clause-own : goal.returns-clause-own
returns-clause-own g c = rw (← c.self.view_is) (nth_found (values_of c.self.inside.loads.entries) c.self.inside.next c.args.index c.index.result.now c.self.invariant.0.rising c.index.ensures)
