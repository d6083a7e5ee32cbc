use Rattle.cap_copy.proofs.Prelude.{◌∙◌}
use Rattle.cap_copy.proofs.farm.SnapshotFarm.node_count.Goals as goal

pub returns-clause-count : goal.returns-clause-count
returns-clause-count g c = rw (← c.self.view_is) (c.len.ensures ∙ c.self.inside.nodes.ok.0)

pub returns-clause-whole : goal.returns-clause-whole
returns-clause-whole g c = rw (← c.self.view_is) c.self.invariant.is.whole
