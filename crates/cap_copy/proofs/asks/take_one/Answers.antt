use Rattle.cap_copy.proofs.Reserving.{all_taken}
use Rattle.cap_copy.proofs.asks.take_one.Goals as goal

pub returns : goal.returns
returns g c =
    all_taken c.args.reservation.now c.args.range.now.start c.args.range.now.end c.args.asks.now.items c.requires.inside c.loop-index.index c.loop-index.asks.items c.loop-index-test.false c.loop-index.invariant.taken
