use Rattle.cap_model.specs.Flat.{app_in}
use Rattle.cap_asks.proofs.Entries.{replied, unreplied}
use Rattle.cap_asks.proofs.apps.Apps.reply.Goals as goal

pub returns-in-Some : goal.returns-in-Some
returns-in-Some g c = replied (app_in c.args.self.now.table c.args.n) c.in-Some.app.now.app c.args.reported.now c.reply.result c.in-Some.ensures.found c.reply.ensures

pub returns-in-None : goal.returns-in-None
returns-in-None g c = unreplied (app_in c.args.self.now.table c.args.n) c.args.reported.now c.in-None.ensures.found
