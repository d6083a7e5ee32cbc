use Rattle.cap_workers.specs.Following.{notes_none, notes_one}
use Rattle.cap_workers.proofs.Following.{caught_up, notes_then}
use Rattle.cap_workers.proofs.follower.catch_up.Goals as goal

pub loop-init : goal.loop-init
loop-init g c = record { notes = notes_none; follows = c.requires }

pub loop-preserved : goal.loop-preserved
loop-preserved g c = record { notes = notes_one c.loop.invariant.notes c.in-Ok-false.ensures.taken.copied; follows = c.take_piece.ensures.follows }

pub returns-in-Ok-true-clause-caught : goal.returns-in-Ok-true-clause-caught
returns-in-Ok-true-clause-caught g c = caught_up c.take_piece.new.replica c.loop.invariant.notes c.in-Ok-true.ensures.taken c.in-Ok-true.field-0-test

pub returns-in-Err-clause-caught : goal.returns-in-Err-clause-caught
returns-in-Err-clause-caught g c = notes_then c.loop.invariant.notes c.in-Err.ensures.taken
