use Rattle.cap_nodes.proofs.Sizes.{load_fits, present_fits}
use Rattle.std.proofs.Common.{sym}
use Rattle.cap_nodes.proofs.Changes.{homes_all, node_of_load, node_of_none, held_all}
use Rattle.cap_nodes.proofs.nodes.Nodes.node.Goals as goal

pub returns-in-Some-clause-found : goal.returns-in-Some-clause-found
returns-in-Some-clause-found g c = rw (← c.self.view_is, c.node.ensures) (sym (node_of_load c.self.inside.present.loads c.args.number c.in-Some.load.now (sym c.in-Some.ensures)))

pub returns-in-None-clause-found : goal.returns-in-None-clause-found
returns-in-None-clause-found g c = rw (← c.self.view_is) (sym (node_of_none c.self.inside.present.loads c.args.number (sym c.in-None.ensures)))

pub returns-in-Some-clause-held : goal.returns-in-Some-clause-held
returns-in-Some-clause-held g c = rw (← c.self.view_is) (held_all g.row.K c.self.inside.live.containers c.self.inside.present.loads c.self.invariant.0.ties)

pub returns-in-None-clause-held : goal.returns-in-None-clause-held
returns-in-None-clause-held g c = rw (← c.self.view_is) (held_all g.row.K c.self.inside.live.containers c.self.inside.present.loads c.self.invariant.0.ties)

pub returns-in-Some-clause-homes : goal.returns-in-Some-clause-homes
returns-in-Some-clause-homes g c = rw (← c.self.view_is) (homes_all g.row.K c.self.inside.present.loads c.self.inside.live.containers c.self.invariant.0)

pub returns-in-Some-clause-totals : goal.returns-in-Some-clause-totals
returns-in-Some-clause-totals g c = rw (← c.self.view_is, ← c.self.invariant.1) c.self.invariant.3

pub returns-in-None-clause-homes : goal.returns-in-None-clause-homes
returns-in-None-clause-homes g c = rw (← c.self.view_is) (homes_all g.row.K c.self.inside.present.loads c.self.inside.live.containers c.self.invariant.0)

pub returns-in-None-clause-totals : goal.returns-in-None-clause-totals
returns-in-None-clause-totals g c = rw (← c.self.view_is, ← c.self.invariant.1) c.self.invariant.3

pub node-requires : goal.node-requires
node-requires g c = search load_fits

pub get-requires : goal.get-requires
get-requires g c = search (present_fits, load_fits)
