use Rattle.cap_nodes.proofs.Sizes.{reserved_fits}
use Rattle.std.proofs.Common.{◌∙◌, sym}
use Rattle.cap_nodes.proofs.Walked.{kept_count}
use Rattle.cap_nodes.proofs.nodes.Nodes.reserved_for.Goals as goal

pub returns : goal.returns
returns g c = rw (← c.self.view_is) (c.count_for.ensures ∙ sym (kept_count c.args.app c.args.key.now c.self.inside.reserved.containers))

pub count_for-requires : goal.count_for-requires
count_for-requires g c = search reserved_fits
