use Rattle.cap_session.proofs.Prelude.{subst, ap, refl, inr, Some, History, SessionState, FeedGives, IsSession, state_inside}
use Rattle.cap_session.specs.declared.session.SessionCause.TheVariants as causes
use Rattle.cap_session.specs.declared.session.Fed.TheVariants as feds
use Rattle.cap_session.proofs.SessionSteps.{promises, feeds, feeds_none}
use Rattle.cap_session.proofs.session.Session.feed.Goals as goal

pub returns-in-Some-clause-session : goal.returns-in-Some-clause-session
returns-in-Some-clause-session c = subst IsSession c.self.view_is (promises c.self.inside c.self.invariant)

pub invariant_of-self : goal.invariant_of-self
invariant_of-self c =
    let taken = c.in-Ok.ensures.ok in
    feeds c.self.inside c.feed.new.self c.self.invariant c.in_default.is (ap (λ (h : History). h.given) taken) c.feed.ensures.reading

pub returns-in-Ok-clause-session : goal.returns-in-Ok-clause-session
returns-in-Ok-clause-session c = promises (record c.self.inside { framer = c.feed.new.self }) (invariant_of-self c)

pub invariant_of-self-in-Err : goal.invariant_of-self-in-Err
invariant_of-self-in-Err c = feeds_none c.self.inside c.feed.new.self c.self.invariant c.in_default.is c.in-Err.ensures.err c.feed.ensures.reading

pub returns-in-Err-clause-session : goal.returns-in-Err-clause-session
returns-in-Err-clause-session c = promises (record c.self.inside { framer = c.feed.new.self; ended = Some causes.NoMemory }) (invariant_of-self-in-Err c)

pub returns-in-Ok-clause-gives : goal.returns-in-Ok-clause-gives
returns-in-Ok-clause-gives c =
    let s = state_inside c.self.inside in
    let t = state_inside (record c.self.inside { framer = c.feed.new.self }) in
    subst (λ (x : SessionState). FeedGives c.args.piece.now x t feds.Taken) c.self.view_is (c.in_default.is, ap (λ (h : History). record s { fed = h.fed }) c.in-Ok.ensures.ok)

pub returns-in-Err-clause-gives : goal.returns-in-Err-clause-gives
returns-in-Err-clause-gives c =
    let s = state_inside c.self.inside in
    let t = state_inside (record c.self.inside { framer = c.feed.new.self; ended = Some causes.NoMemory }) in
    subst (λ (x : SessionState). FeedGives c.args.piece.now x t (feds.Ended causes.NoMemory)) c.self.view_is (inr (c.in_default.is, refl, ap (λ (h : History). record s { fed = h.fed; ended = Some causes.NoMemory }) c.in-Err.ensures.err))
