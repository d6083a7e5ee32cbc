use Rattle.cap_workers.specs.Scheduling.{turns_none}
use Rattle.cap_workers.proofs.Turns.{one_turn}
use Rattle.cap_workers.proofs.scheduler.Turning.schedule.Goals as goal

pub loop-init : goal.loop-init
loop-init g c = turns_none

pub returns-then-not-goes_on : goal.returns-then-not-goes_on
returns-then-not-goes_on g c = one_turn c.turn.new.self.worker c.turn.result c.loop.invariant c.turn.ensures.start c.turn.ensures.turn

pub loop-preserved : goal.loop-preserved
loop-preserved g c = one_turn c.turn.new.self.worker c.turn.result c.loop.invariant c.turn.ensures.start c.turn.ensures.turn
