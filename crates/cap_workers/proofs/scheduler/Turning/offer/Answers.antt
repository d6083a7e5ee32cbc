use Rattle.cap_workers.specs.Following.{notes_none}
use Rattle.cap_workers.proofs.scheduler.Turning.offer.Goals as goal

pub returns-in-Copying-clause-offer : goal.returns-in-Copying-clause-offer
returns-in-Copying-clause-offer g c = rw (c.in-Copying.is, c.renew_arena.ensures.seeing) (c.in-Copying.seat, notes_none, c.offer-end.ensures.offer)
