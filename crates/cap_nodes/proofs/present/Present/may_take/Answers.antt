use Rattle.cap_nodes.proofs.Prelude.{values_of}
use Rattle.cap_nodes.proofs.PlaceCounts.{none_as_large, none_there}
use Rattle.cap_nodes.proofs.present.Present.may_take.Goals as goal

pub returns-then-not-fits : goal.returns-then-not-fits
returns-then-not-fits g c = λ off.
    rw (← c.self.view_is) (none_as_large c.args.place.now c.args.resource.now c.self.inside.greatest (values_of c.self.inside.loads.entries) c.fits.result c.self.invariant.2 c.fits.ensures c.if-not-fits.true)

pub returns : goal.returns
returns g c = λ off.
    rw (← c.self.view_is) (none_there c.args.place.now c.args.resource.now c.self.inside.places (values_of c.self.inside.loads.entries) c.has.result c.self.invariant.1 c.has.ensures off)
