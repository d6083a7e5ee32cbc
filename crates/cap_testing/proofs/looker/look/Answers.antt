use Rattle.std.proofs.Common.{refl}
use Rattle.cap_shared.proofs.Following.{piece_follows}
use Rattle.cap_testing.proofs.looker.look.Goals as goal

pub returns-in-Ok : goal.returns-in-Ok
returns-in-Ok g c =
    let log = c.args.replica.now.log in
    piece_follows g.J.Naming.opening log log c.in-Ok.piece.news c.args.seat.now c.take_news.new.seat c.in-Ok.piece.are_all c.in-Ok.ensures (c.in-Ok.piece.news, refl)
