use Rattle.cap_live.proofs.Shutting.{passed_over}
use Rattle.cap_live.proofs.live.LiveFarm.next_possible.Goals as goal

pub returns : goal.returns
returns g c = passed_over c.args.self.now.flat c.args.of.now.impossible c.requires.has.impossible c.args.of.now.app.asks c.args.from c.next_possible.result c.next_possible.ensures
