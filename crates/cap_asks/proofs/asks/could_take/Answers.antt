use Rattle.cap_asks.specs.Impossible.{want_of}
use Rattle.cap_asks.proofs.Impossible.{sized}
use Rattle.cap_asks.proofs.asks.could_take.Goals as goal

pub returns-then-takes_place : goal.returns-then-takes_place
returns-then-takes_place g c =
    sized (want_of c.args.ask.now) c.args.host.now c.args.rack.now c.args.total.now c.place.result c.resource.result c.takes_place.result c.fits.result c.place.ensures c.resource.ensures c.takes_place.ensures c.if-takes_place.true c.fits.ensures
