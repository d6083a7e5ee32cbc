use Rattle.cap_workers.proofs.Prelude.{subst, Sitting}
use Rattle.cap_workers.specs.Following.{Notes}
use Rattle.cap_workers.proofs.Following.{notes_of}
use Rattle.cap_workers.proofs.follower.Follower.catch_up.Goals as goal

pub returns : goal.returns
returns g c = subst (λ (s : Sitting). Notes g.J.Naming.opening s c.catch_up.new.seat) c.self.view_is (notes_of c.catch_up.result c.catch_up.new.replica c.catch_up.ensures.caught)
