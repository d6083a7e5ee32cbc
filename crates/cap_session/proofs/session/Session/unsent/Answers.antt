use Rattle.cap_session.proofs.Prelude.{subst, IsSession}
use Rattle.cap_session.proofs.SessionSteps.{promises}
use Rattle.cap_session.proofs.session.Session.unsent.Goals as goal

pub returns-clause-session : goal.returns-clause-session
returns-clause-session c = subst IsSession c.self.view_is (promises c.self.inside c.self.invariant)
