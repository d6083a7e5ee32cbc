use Rattle.cap_nodes.proofs.Sizes.{load_fits, present_fits}
use Rattle.std.proofs.Common.{◌∙◌, sym}
use Rattle.cap_nodes.proofs.Changes.{live_of, none_of}
use Rattle.cap_nodes.proofs.nodes.Nodes.live_on.Goals as goal

pub returns-in-Some : goal.returns-in-Some
returns-in-Some g c = rw (← c.self.view_is) (c.live.ensures ∙ live_of g.row.K c.self.inside.present.loads c.self.inside.live.containers c.self.invariant.0 c.args.number c.in-Some.load.now (sym c.in-Some.ensures))

pub returns-in-None : goal.returns-in-None
returns-in-None g c = rw (← c.self.view_is) (none_of g.row.K c.self.inside.present.loads c.self.inside.live.containers c.self.invariant.0 c.args.number (sym c.in-None.ensures))

pub live-requires : goal.live-requires
live-requires g c = search load_fits

pub get-requires : goal.get-requires
get-requires g c = search (present_fits, load_fits)
