use Rattle.cap_tree.proofs.Prelude.{◌∙◌, sym, ap, is_parent}
use Rattle.cap_tree.proofs.Finding.{found_at, children_at, missing}
use Rattle.cap_tree.proofs.ServiceRows.{rows_once}
use Rattle.cap_tree.proofs.Sizes.{path_fits, queue_fits}
use Rattle.cap_tree.proofs.tree.QueueTree.find.Goals as goal

pub find-requires : goal.find-requires
find-requires g c = (search path_fits, (rows_once c.self.inside.root c.self.invariant.rows_are.paths, (c.self.invariant.rows_are.short, record { empty = c.new-position.ensures.items; room = c.new-position.ensures.capacity })))

pub returns-in-None-clause-found : goal.returns-in-None-clause-found
returns-in-None-clause-found g c = rw (← c.self.view_is) (missing c.self.inside.root c.args.path.now c.in-None.ensures.is)

pub returns-in-Some-Leaf-clause-found : goal.returns-in-Some-Leaf-clause-found
returns-in-Some-Leaf-clause-found g c =
    let a = c.self.invariant.rows_are.paths in
    let f = c.in-Some-Leaf.ensures in
    rw (← c.self.view_is) (found_at c.self.inside.root c.args.path.now _ a f.is, children_at c.self.inside.root c.args.path.now _ a f.is ∙ sym f.below ∙ ap is_parent c.in-Some-Leaf.field-0-is)

pub returns-in-Some-Parent-clause-found : goal.returns-in-Some-Parent-clause-found
returns-in-Some-Parent-clause-found g c =
    let a = c.self.invariant.rows_are.paths in
    let f = c.in-Some-Parent.ensures in
    rw (← c.self.view_is) (found_at c.self.inside.root c.args.path.now _ a f.is, children_at c.self.inside.root c.args.path.now _ a f.is ∙ sym f.below ∙ ap is_parent c.in-Some-Parent.field-0-is)

pub allocator-requires : goal.allocator-requires
allocator-requires g c = search path_fits

pub new-position-requires : goal.new-position-requires
new-position-requires g c = search path_fits

pub returns-in-None-clause-rows : goal.returns-in-None-clause-rows
returns-in-None-clause-rows g c = rw (← c.self.view_is) c.self.invariant.rows_are

pub returns-in-Some-Leaf-clause-rows : goal.returns-in-Some-Leaf-clause-rows
returns-in-Some-Leaf-clause-rows g c = rw (← c.self.view_is) c.self.invariant.rows_are

pub returns-in-Some-Parent-clause-rows : goal.returns-in-Some-Parent-clause-rows
returns-in-Some-Parent-clause-rows g c = rw (← c.self.view_is) c.self.invariant.rows_are

pub find-requires-room-T-TreeItem : goal.find-requires-room-T-TreeItem
find-requires-room-T-TreeItem g c κs within = search queue_fits

pub find-requires-room-T-Destruct : goal.find-requires-room-T-Destruct
find-requires-room-T-Destruct g c κs within = search queue_fits
