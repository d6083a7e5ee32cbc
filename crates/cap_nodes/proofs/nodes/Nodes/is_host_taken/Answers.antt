use Rattle.cap_nodes.proofs.Sizes.{present_fits}
use Rattle.std.proofs.Common.{◌∙◌}
use Rattle.std.specs.Str.{bytes_eq}
use Rattle.cap_nodes.proofs.Changes.{any_node}
use Rattle.cap_nodes.proofs.nodes.Nodes.is_host_taken.Goals as goal

pub returns : goal.returns
returns g c = rw (← c.self.view_is) (c.is_host_taken.ensures ∙ any_node (λ h. bytes_eq h c.args.host.now) c.self.inside.present.loads)

pub is_host_taken-requires : goal.is_host_taken-requires
is_host_taken-requires g c = search present_fits
