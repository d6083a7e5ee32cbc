use Rattle.cap_nodes.proofs.PlaceCounts.{places_back}
use Rattle.cap_nodes.proofs.places.Places.add.Goals as goal

pub returns-in-Err-more-clause-err : goal.returns-in-Err-more-clause-err
returns-in-Err-more-clause-err c =
    places_back c.args.host.now c.args.rack.now c.args.self.now (record { hosts = c.fewer.new.self; racks = c.more-2.new.self }) c.more.new.self c.in-Ok.ensures.ok c.fewer.ensures c.in-Err-more.ensures.err
    (record { of_host = c.as_bytes.ensures.text; of_rack = c.as_bytes-2.ensures.text })
