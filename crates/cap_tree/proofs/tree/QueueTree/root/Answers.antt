use Rattle.cap_tree.proofs.tree.QueueTree.root.Goals as goal

pub returns-clause-rows : goal.returns-clause-rows
returns-clause-rows g c = rw (← c.self.view_is) c.self.invariant.rows_are
