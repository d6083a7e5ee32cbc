use Rattle.cap_workers.specs.Scheduling.{offers_none}
use Rattle.cap_workers.proofs.Turns.{one_offer}
use Rattle.cap_workers.proofs.scheduler.Turning.offer_all.Goals as goal

pub loop-init : goal.loop-init
loop-init g c = offers_none

pub returns-then-not-goes_on : goal.returns-then-not-goes_on
returns-then-not-goes_on g c = one_offer c.offer-end.new.self.worker c.offer-end.result c.loop.invariant c.offer-end.ensures.start c.offer-end.ensures.offer

pub loop-preserved : goal.loop-preserved
loop-preserved g c = one_offer c.offer-end.new.self.worker c.offer-end.result c.loop.invariant c.offer-end.ensures.start c.offer-end.ensures.offer
