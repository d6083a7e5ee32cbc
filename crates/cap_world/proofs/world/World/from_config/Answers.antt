use Rattle.cap_world.proofs.Promises.{keeps_promises}
use Rattle.cap_world.proofs.world.World.from_config.Goals as goal

pub returns-in-Ok-clause-promised : goal.returns-in-Ok-clause-promised
returns-in-Ok-clause-promised c = keeps_promises c.args.config.now c.queues-listed.ensures.listing

pub returns-in-Err-clause-promised : goal.returns-in-Err-clause-promised
returns-in-Err-clause-promised c = keeps_promises c.args.config.now c.queues-listed.ensures.listing
