use Rattle.cap_nodes.proofs.Sizes.{container_fits, containers_fit}
use Rattle.std.proofs.lemmas.Option.{slice_get_past}
use Rattle.cap_nodes.proofs.Prelude.{◌∙◌, ◌≤◌, ap, sym, arith, length, filter, option_map, is_for, reservation_of}
use Rattle.cap_nodes.proofs.Walked.{kept_at}
use Rattle.cap_nodes.proofs.nodes.Nodes.reservation_for.Goals as goal

pub returns-in_default : goal.returns-in_default
returns-in_default g c =
    rw (← c.self.view_is) (ap (option_map reservation_of) (sym c.in_default.is ∙ (rw c.made.ensures at c.nth_for.ensures)) ∙ sym (kept_at c.args.app c.args.key.now c.args.older c.self.inside.reserved.containers))

pub returns : goal.returns
returns g c =
    rw (← c.self.view_is, c.reservation_of.ensures) (ap (option_map reservation_of) (sym c.in-Some.is ∙ (rw c.made.ensures at c.nth_for.ensures)) ∙ sym (kept_at c.args.app c.args.key.now c.args.older c.self.inside.reserved.containers))

pub reservation_of-requires : goal.reservation_of-requires
reservation_of-requires g c = search container_fits

pub nth_for-requires : goal.nth_for-requires
nth_for-requires g c = search (containers_fit, container_fits)

pub returns-then-reserved_for-older : goal.returns-then-reserved_for-older
returns-then-reserved_for-older g c =
    let kept = filter (is_for c.args.app c.args.key.now) c.args.self.now.reserved in
    let few : length kept ≤ c.args.older = omega (arith, c.reserved_for.ensures, c.if-reserved_for-older.true) in
    sym (slice_get_past kept c.args.older few)
