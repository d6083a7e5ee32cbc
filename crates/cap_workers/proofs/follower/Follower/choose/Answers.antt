use Rattle.cap_workers.proofs.Prelude.{subst, Sitting}
use Rattle.cap_workers.specs.Following.{ChoosesNow}
use Rattle.cap_workers.proofs.Following.{chosen_on_replica}
use Rattle.cap_workers.proofs.follower.Follower.choose.Goals as goal

pub returns : goal.returns
returns g c =
    let o = g.J.Naming.opening in
    subst (λ (s : Sitting). ChoosesNow o c.args.turn.start s c.catch_up.new.seat c.propose_live-choice.result) c.self.view_is
    (chosen_on_replica c.args.turn.start c.catch_up.new.replica c.cluster.result.now.flat c.in-Ok.ensures.caught c.cluster.ensures.cluster c.propose_live-choice.ensures)
