use Rattle.cap_copy.proofs.Prelude.{◌∙◌, sym, ap, option_map, amounts_exchanged, holds_of, fits_user_limit, stays_in_maximum, SeenQueue, rows_seen}
use Rattle.cap_copy.proofs.Copies.{failing_along-made, item_at-made, position-made}
use Rattle.cap_copy.proofs.Fitting.{seen_fits}
use Rattle.cap_copy.proofs.Limited.{leaf_decides, one_fails}
use Rattle.cap_copy.proofs.seen_tree.SeenTree.stays_within.Goals as goal

pub first_failing-requires-room-T-TreeItem : goal.first_failing-requires-room-T-TreeItem
first_failing-requires-room-T-TreeItem g c κs within = search seen_fits

pub first_failing-requires-room-T-Destruct : goal.first_failing-requires-room-T-Destruct
first_failing-requires-room-T-Destruct g c κs within = search seen_fits

pub first_failing-requires-room-C-Test-2 : goal.first_failing-requires-room-C-Test-2
first_failing-requires-room-C-Test-2 g c κs within = search seen_fits

pub get-requires-room-T-TreeItem : goal.get-requires-room-T-TreeItem
get-requires-room-T-TreeItem g c κs within = search seen_fits

pub get-requires-room-T-Destruct : goal.get-requires-room-T-Destruct
get-requires-room-T-Destruct g c κs within = search seen_fits

pub stays_in_user_limit-requires : goal.stays_in_user_limit-requires
stays_in_user_limit-requires g c = search seen_fits

pub first_failing-requires : goal.first_failing-requires
first_failing-requires g c = position-made (λ (q : SeenQueue). q.queue) c.args.position.now c.self.inside.root (rw (← c.self.view_is) at c.requires)

pub get-requires : goal.get-requires
get-requires g c = position-made (λ (q : SeenQueue). q.queue) c.args.position.now c.self.inside.root (rw (← c.self.view_is) at c.requires)

pub returns-then-is_some : goal.returns-then-is_some
returns-then-is_some g c =
    let test = stays_in_maximum c.args.old.now c.args.new.now in
    rw (← c.self.view_is)
    (one_fails c.args.used.now c.args.position.now c.args.old.now c.args.new.now (rows_seen c.self.inside.root) c.self.invariant.rows_are.paths (rw (← c.self.view_is) at c.requires)
    c.first_failing.result (c.first_failing.ensures.level ∙ sym (failing_along-made (λ (q : SeenQueue). q.queue) test c.args.position.now c.self.inside.root)) (sym c.is_some.ensures ∙ c.if-is_some.true))

pub returns : goal.returns
returns g c =
    let test = stays_in_maximum c.args.old.now c.args.new.now in
    let after = amounts_exchanged c.args.old.now c.args.new.now c.args.used.now in
    let queue = item_at-made (λ (q : SeenQueue). q.queue) c.args.position.now c.self.inside.root ∙ ap (option_map (λ (q : SeenQueue). q.queue)) c.get.ensures in
    rw (← c.self.view_is)
    (leaf_decides c.args.used.now c.args.position.now c.args.old.now c.args.new.now (rows_seen c.self.inside.root) c.self.invariant.rows_are.paths (rw (← c.self.view_is) at c.requires)
    c.first_failing.result (c.first_failing.ensures.level ∙ sym (failing_along-made (λ (q : SeenQueue). q.queue) test c.args.position.now c.self.inside.root)) (sym c.is_some.ensures ∙ c.if-is_some.false)
    c.stays_in_user_limit.result (c.stays_in_user_limit.ensures ∙ sym (ap (holds_of (λ q. fits_user_limit q.factor q.guaranteed after)) queue)))
