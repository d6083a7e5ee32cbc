use Rattle.cap_session.proofs.Prelude.{refl, subst, SessionState, OpensNext, IsKept, state_inside, Inside}
use Rattle.cap_session.proofs.SessionSteps.{promises, next_opens}
use Rattle.cap_session.proofs.session.Session.next_ahead.Goals as goal

abbrev after : goal.After-pop_front → Inside
after c = record c.self.inside { ahead = c.pop_front.new.self }

next : (c : goal.After-pop_front) → IsKept (after c) × OpensNext (state_inside c.self.inside) (state_inside (after c)) c.pop_front.result
next c = next_opens c.self.inside (after c) c.pop_front.result c.self.invariant c.pop_front.ensures.items refl

pub invariant_of-self : goal.invariant_of-self
invariant_of-self c = (next c).0

pub returns-clause-opens : goal.returns-clause-opens
returns-clause-opens c = subst (λ (s : SessionState). OpensNext s (state_inside (after c)) c.pop_front.result) c.self.view_is (next c).1

pub returns-clause-session : goal.returns-clause-session
returns-clause-session c = promises (after c) (next c).0
