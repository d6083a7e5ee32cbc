use Rattle.cap_world.proofs.Prelude.{arith}
use Rattle.cap_world.proofs.worker.WorkerSlot.drop.Goals as goal

pub drop-self-inside-requires-10 : goal.drop-self-inside-requires-10
drop-self-inside-requires-10 c = omega arith
