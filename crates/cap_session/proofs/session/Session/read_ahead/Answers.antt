use Rattle.cap_session.proofs.Prelude.{refl}
use Rattle.cap_session.proofs.SessionSteps.{reads, was_open}
use Rattle.cap_session.proofs.session.Session.read_ahead.Goals as goal

pub invariant_of-self : goal.invariant_of-self
invariant_of-self c =
    (reads c.self.inside (record c.self.inside { framer = c.read_all.new.framer; asked = c.read_all.new.asked; ahead = c.read_all.new.requests; unsent = c.read_all.new.unsent }) c.self.invariant (was_open c.self.inside.ended c.if-is_some.ensures) c.read_all.ensures.reads c.read_all.ensures.reading c.read_all.ensures.room c.read_all.ensures.unsent refl refl refl).0
