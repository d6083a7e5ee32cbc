use Rattle.cap_shared.proofs.Following.{piece_follows}
use Rattle.cap_testing.proofs.looker.take_piece.Goals as goal

pub returns : goal.returns
returns g c =
    piece_follows g.J.Naming.opening c.make_again.new.replica.log c.args.replica.now.log c.in-Ok.piece.news c.args.seat.now c.take_news.new.seat c.in-Ok.piece.are_all c.in-Ok.ensures c.make_again.ensures
