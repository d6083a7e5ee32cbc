use Rattle.cap_workers.specs.Following.{notes_none}
use Rattle.cap_workers.proofs.scheduler.Turning.turn.Goals as goal

pub returns-in-Copying-clause-turn : goal.returns-in-Copying-clause-turn
returns-in-Copying-clause-turn g c = rw (c.in-Copying.is, c.renew_arena.ensures.seeing) (c.in-Copying.seat, notes_none, c.turn-end.ensures.turn)
