use Rattle.cap_nodes.proofs.Sizes.{load_fits, present_fits}
use Rattle.cap_nodes.proofs.Prelude.{◌∙◌, map, sym, reservation_of}
use Rattle.cap_nodes.proofs.Reserving.{its_own}
use Rattle.cap_nodes.proofs.nodes.Nodes.reservation_on.Goals as goal

pub returns-in-Some : goal.returns-in-Some
returns-in-Some g c =
    rw (← c.self.view_is)
    (c.reservation.ensures ∙ its_own (map reservation_of c.self.inside.reserved.containers) c.self.inside.present.loads c.args.node c.in-Some.load.now (sym c.in-Some.ensures) c.self.invariant.4)

pub reservation-requires : goal.reservation-requires
reservation-requires g c = search load_fits

pub get-requires : goal.get-requires
get-requires g c = search (present_fits, load_fits)
