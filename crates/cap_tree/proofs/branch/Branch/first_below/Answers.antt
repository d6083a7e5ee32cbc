use Rattle.std.proofs.Common.{arith}
use Rattle.cap_tree.proofs.Walks.{first_in, kid_waits, next_marked, next_once, next_within, none_below}
use Rattle.cap_tree.proofs.branch.Branch.first_below.Goals as goal

pub index-requires : goal.index-requires
index-requires g c = let w = next_within g.T.TreeItem.order g.met.T.Served.total g.T.TreeItem.name g.met.T.Served.names c.self.inside.item c.self.inside.children.items c.args.self.now c.self.view_is c.self.invariant.0.trees c.requires.once g.T.Marked.mark g.T.TreeItem.waits c.requires.marked c.args.after c.requires.after c.in-Some.child c.in-Some.ensures in omega (arith, w)

pub first_waiting-requires-clause-once : goal.first_waiting-requires-clause-once
first_waiting-requires-clause-once g c = next_once g.T.TreeItem.order g.met.T.Served.total g.T.TreeItem.name g.met.T.Served.names c.self.inside.item c.self.inside.children.items c.args.self.now c.self.view_is c.self.invariant.0.trees c.requires.once g.T.Marked.mark g.T.TreeItem.waits c.requires.marked c.args.after c.requires.after c.in-Some.child c.in-Some.ensures c.index.result.now c.index.ensures

pub first_waiting-requires-clause-marked : goal.first_waiting-requires-clause-marked
first_waiting-requires-clause-marked g c = next_marked g.T.TreeItem.order g.met.T.Served.total g.T.TreeItem.name g.met.T.Served.names c.self.inside.item c.self.inside.children.items c.args.self.now c.self.view_is c.self.invariant.0.trees c.requires.once g.T.Marked.mark g.T.TreeItem.waits c.requires.marked c.args.after c.requires.after c.in-Some.child c.in-Some.ensures c.index.result.now c.index.ensures

pub first_waiting-requires-clause-some : goal.first_waiting-requires-clause-some
first_waiting-requires-clause-some g c = kid_waits g.T.TreeItem.order g.met.T.Served.total g.T.TreeItem.name g.met.T.Served.names c.self.inside.item c.self.inside.children.items c.args.self.now c.self.view_is c.self.invariant.0.trees c.requires.once g.T.Marked.mark g.T.TreeItem.waits c.requires.marked c.args.after c.requires.after c.in-Some.child c.in-Some.ensures c.index.result.now c.index.ensures

pub returns-in-None : goal.returns-in-None
returns-in-None g c = none_below g.T.TreeItem.order g.met.T.Served.total g.T.TreeItem.name g.met.T.Served.names c.self.inside.item c.self.inside.children.items c.args.self.now c.self.view_is c.self.invariant.0.trees c.requires.once g.T.Marked.mark g.T.TreeItem.waits c.requires.marked c.args.after c.requires.after c.in-None.ensures

pub returns-in-Some : goal.returns-in-Some
returns-in-Some g c = first_in g.T.TreeItem.order g.met.T.Served.total g.T.TreeItem.name g.met.T.Served.names c.self.inside.item c.self.inside.children.items c.args.self.now c.self.view_is c.self.invariant.0.trees c.requires.once g.T.Marked.mark g.T.TreeItem.waits c.requires.marked c.args.after c.requires.after c.in-Some.child c.in-Some.ensures c.index.result.now c.index.ensures c.first_waiting.result c.first_waiting.ensures
