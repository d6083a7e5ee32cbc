use Rattle.std.proofs.Common.{arith, false, true}
use Rattle.cap_tree.proofs.Within.{over_maximum, over_user}
use Rattle.cap_tree.proofs.Sizes.{path_fits, queue_fits}
use Rattle.cap_tree.proofs.tree.QueueTree.accept.Goals as goal

pub as_slice-requires : goal.as_slice-requires
as_slice-requires g c = search path_fits

pub first_failing-requires : goal.first_failing-requires
first_failing-requires g c = rw (← c.self.view_is, ← c.as_slice.ensures) at c.requires

pub returns-in-Some-clause-err : goal.returns-in-Some-clause-err
returns-in-Some-clause-err g c =
    rw (← c.self.view_is, ← c.as_slice.ensures)
    (over_maximum g.row.K c.as_slice.result.now c.args.user.now c.args.old.now c.args.new.now c.self.inside.root c.self.invariant.rows_are.paths (rw (← c.self.view_is, ← c.as_slice.ensures) at c.requires) c.in-Some.level c.in-Some.ensures.level)

pub returns-then-not-stays_in_user_limit-clause-err : goal.returns-then-not-stays_in_user_limit-clause-err
returns-then-not-stays_in_user_limit-clause-err g c =
    rw (← c.self.view_is, ← c.as_slice.ensures)
    (over_user g.row.K c.as_slice.result.now c.args.user.now c.args.old.now c.args.new.now c.self.inside.root c.self.invariant.rows_are.paths (rw (← c.self.view_is, ← c.as_slice.ensures) at c.requires)
    false c.in_default.ensures.level (rw (← c.self.view_is, ← c.as_slice.ensures) at c.if-not-stays_in_user_limit.ensures))

pub returns-clause-ok : goal.returns-clause-ok
returns-clause-ok g c =
    rw (← c.self.view_is, ← c.as_slice.ensures)
    (over_user g.row.K c.as_slice.result.now c.args.user.now c.args.old.now c.args.new.now c.self.inside.root c.self.invariant.rows_are.paths (rw (← c.self.view_is, ← c.as_slice.ensures) at c.requires)
    true c.in_default.ensures.level (rw (← c.self.view_is, ← c.as_slice.ensures) at c.if-not-stays_in_user_limit.ensures))

pub stays_in_user_limit-requires : goal.stays_in_user_limit-requires
stays_in_user_limit-requires g c = ((search), ((search), ((search), c.requires)))

pub first_failing-requires-room-T-TreeItem : goal.first_failing-requires-room-T-TreeItem
first_failing-requires-room-T-TreeItem g c κs within = search queue_fits

pub first_failing-requires-room-T-Destruct : goal.first_failing-requires-room-T-Destruct
first_failing-requires-room-T-Destruct g c κs within = search queue_fits

pub first_failing-requires-room-C-Test : goal.first_failing-requires-room-C-Test
first_failing-requires-room-C-Test g c κs within = omega arith

pub first_failing-requires-room-C-Test-2 : goal.first_failing-requires-room-C-Test-2
first_failing-requires-room-C-Test-2 g c κs within = search queue_fits

pub returns-in-Some-clause-rows : goal.returns-in-Some-clause-rows
returns-in-Some-clause-rows g c = rw (← c.self.view_is) c.self.invariant.rows_are

pub returns-then-not-stays_in_user_limit-clause-rows : goal.returns-then-not-stays_in_user_limit-clause-rows
returns-then-not-stays_in_user_limit-clause-rows g c = rw (← c.self.view_is) c.self.invariant.rows_are

pub returns-clause-rows : goal.returns-clause-rows
returns-clause-rows g c = rw (← c.self.view_is) c.self.invariant.rows_are
