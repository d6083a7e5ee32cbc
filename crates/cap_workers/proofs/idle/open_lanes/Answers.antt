use Rattle.std.specs.Option.{option_to_list}
use Rattle.cap_workers.proofs.Leavers.{others_fresh}
use Rattle.cap_workers.proofs.idle.open_lanes.Goals as goal

pub returns : goal.returns
returns g c = others_fresh c.args.seats.now.items c.pop.new.self.items (option_to_list c.pop.result) c.pop.ensures.items c.requires.fresh
