use Rattle.cap_shared.proofs.Following.{caught_up_follows}
use Rattle.engine_tests.proofs.shared.lagging.follow.Goals as goal

pub returns : goal.returns
returns g c = caught_up_follows g.J.Naming.opening c.catch_up.new.self.log c.args.replica.now.log c.in-Ok.piece.news c.args.seat.now c.news.new.seat c.in-Ok.piece.are_all c.in-Ok.ensures c.in-Ok-catch_up.ensures.ok
