use Rattle.std.proofs.Common.{◌≡◌, true, false, subst}
use Rattle.cap_nodes.specs.declared.change.Change.{Change}
use Rattle.cap_nodes.specs.Changes.{MayChange}
use Rattle.cap_nodes.specs.Loads.{CanHold}
use Rattle.cap_nodes.proofs.load.Load.change.Goals as goal

pub unreachable-requires : goal.unreachable-requires
unreachable-requires g c =
    let may : CanHold c.in-Hold.resource.now c.args.self.now = subst (λ (change : Change g.row.K). MayChange change c.args.self.now) c.in-Hold.is c.requires in
    let within = rw (← c.self.view_is) at may.within in
    let some : false ≡ true = c.in_default.ensures.variant.1 (record { count = c.checked_add.ensures.count; within = within }) in
    cc
