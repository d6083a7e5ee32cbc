use Rattle.cap_shared.proofs.Following.{caught_up_follows, piece_follows}
use Rattle.cap_workers.specs.Following.{notes_none}
use Rattle.cap_workers.proofs.Following.{piece_noted, piece_taken}
use Rattle.cap_workers.proofs.follower.take_piece.Goals as goal

pub returns-in_default-clause-taken : goal.returns-in_default-clause-taken
returns-in_default-clause-taken g c = rw c.in_default.ensures notes_none

pub returns-in-Ok-catch_up-clause-taken : goal.returns-in-Ok-catch_up-clause-taken
returns-in-Ok-catch_up-clause-taken g c = piece_taken c.args.replica.now.log c.catch_up.new.self c.in-Ok.ensures c.in-Ok-catch_up.ensures.ok c.catch_up.ensures.run

pub returns-in-Ok-catch_up-clause-follows : goal.returns-in-Ok-catch_up-clause-follows
returns-in-Ok-catch_up-clause-follows g c =
    caught_up_follows g.J.Naming.opening c.catch_up.new.self.log c.args.replica.now.log c.in-Ok.piece.news c.args.seat.now c.news.new.seat c.in-Ok.piece.are_all c.in-Ok.ensures c.in-Ok-catch_up.ensures.ok

pub returns-in-Err-clause-taken : goal.returns-in-Err-clause-taken
returns-in-Err-clause-taken g c = piece_noted c.args.replica.now.log c.in-Ok.ensures

pub returns-in-Err-clause-follows : goal.returns-in-Err-clause-follows
returns-in-Err-clause-follows g c =
    piece_follows g.J.Naming.opening c.catch_up.new.self.log c.args.replica.now.log c.in-Ok.piece.news c.args.seat.now c.news.new.seat c.in-Ok.piece.are_all c.in-Ok.ensures c.in-Err.ensures.err
