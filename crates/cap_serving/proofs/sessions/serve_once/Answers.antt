use Rattle.cap_serving.proofs.Prelude.{refl, ap, ◌∙◌, subst, state_of, inner_of, SessionState, IsPause, Pause}
use Rattle.cap_serving.specs.declared.sessions.EndCause.TheVariants as ends
use Rattle.cap_serving.specs.declared.sessions.Pause.TheVariants as pauses
use Rattle.cap_serving.proofs.Rounds.{went_on, faulted_round, sealed_round, starved_round}
use Rattle.cap_serving.proofs.Streams.{reads_finished}
use Rattle.cap_serving.proofs.sessions.serve_once.Goals as goal

pub returns-in-Need-clause-round : goal.returns-in-Need-clause-round
returns-in-Need-clause-round g c =
    let sent = c.go_on.ensures.sent in
    let read = c.go_on.ensures.read in
    went_on g.J.Naming.limit c.args.session c.answer_all-pause.new.session c.go_on.result.session c.args.seat.now c.answer_all-pause.new.seat sent.0 c.go_on.result.end read.more (subst (λ (p : Pause). IsPause g.J.Naming.limit c.args.session c.answer_all-pause.new.session c.args.seat.now c.answer_all-pause.new.seat p) c.in-Need.is c.answer_all-pause.ensures.pause) sent.1 read.fed

pub returns-in-Sealed-clause-round : goal.returns-in-Sealed-clause-round
returns-in-Sealed-clause-round g c =
    let pause = subst (λ (p : Pause). IsPause g.J.Naming.limit c.args.session c.answer_all-pause.new.session c.args.seat.now c.answer_all-pause.new.seat p) c.in-Sealed.is c.answer_all-pause.ensures.pause in
    let sent = c.finish.ensures.sent in
    sealed_round g.J.Naming.limit c.in-Sealed.request c.args.session c.answer_all-pause.new.session c.finish.result.session c.args.seat.now c.answer_all-pause.new.seat sent.0 c.finish.result.end pause sent.1 sent.2

pub returns-in-Sealed-clause-read : goal.returns-in-Sealed-clause-read
returns-in-Sealed-clause-read g c =
    let sent = c.finish.ensures.sent in
    reads_finished (ends.Sealed c.in-Sealed.request) sent.0 c.finish.result.end (state_of c.args.reader.now) (g.R.Read.remaining (inner_of c.args.reader.now)) c.args.session.fed c.finish.result.session.fed sent.2 refl
    (ap (λ (t : SessionState). t.fed) sent.1 ∙ c.answer_all-pause.ensures.same.0)

pub returns-in-Ended-BadLength-clause-round : goal.returns-in-Ended-BadLength-clause-round
returns-in-Ended-BadLength-clause-round g c =
    let pause = subst (λ (p : Pause). IsPause g.J.Naming.limit c.args.session c.answer_all-pause.new.session c.args.seat.now c.answer_all-pause.new.seat p) (c.in-Ended-BadLength.is ∙ ap pauses.Ended (rw c.in-Ended-BadLength.is at c.in-Ended-BadLength.field-0-is)) c.answer_all-pause.ensures.pause in
    let sent = c.finish-in-Ended-BadLength.ensures.sent in
    faulted_round g.J.Naming.limit c.args.session c.answer_all-pause.new.session c.finish-in-Ended-BadLength.result.session c.args.seat.now c.answer_all-pause.new.seat sent.0 c.finish-in-Ended-BadLength.result.end pause sent.1 sent.2

pub returns-in-Ended-BadLength-clause-read : goal.returns-in-Ended-BadLength-clause-read
returns-in-Ended-BadLength-clause-read g c =
    let sent = c.finish-in-Ended-BadLength.ensures.sent in
    reads_finished ends.Faulted sent.0 c.finish-in-Ended-BadLength.result.end (state_of c.args.reader.now) (g.R.Read.remaining (inner_of c.args.reader.now)) c.args.session.fed c.finish-in-Ended-BadLength.result.session.fed sent.2 refl
    (ap (λ (t : SessionState). t.fed) sent.1 ∙ c.answer_all-pause.ensures.same.0)

pub returns-in-Ended-NoMemory-clause-round : goal.returns-in-Ended-NoMemory-clause-round
returns-in-Ended-NoMemory-clause-round g c =
    let pause = subst (λ (p : Pause). IsPause g.J.Naming.limit c.args.session c.answer_all-pause.new.session c.args.seat.now c.answer_all-pause.new.seat p) (c.in-Ended-NoMemory.is ∙ ap pauses.Ended (rw c.in-Ended-NoMemory.is at c.in-Ended-NoMemory.field-0-is)) c.answer_all-pause.ensures.pause in
    let sent = c.finish-in-Ended-NoMemory.ensures.sent in
    starved_round g.J.Naming.limit c.args.session c.answer_all-pause.new.session c.finish-in-Ended-NoMemory.result.session c.args.seat.now c.answer_all-pause.new.seat sent.0 c.finish-in-Ended-NoMemory.result.end pause sent.1 sent.2

pub returns-in-Ended-NoMemory-clause-read : goal.returns-in-Ended-NoMemory-clause-read
returns-in-Ended-NoMemory-clause-read g c =
    let sent = c.finish-in-Ended-NoMemory.ensures.sent in
    reads_finished ends.NoMemory sent.0 c.finish-in-Ended-NoMemory.result.end (state_of c.args.reader.now) (g.R.Read.remaining (inner_of c.args.reader.now)) c.args.session.fed c.finish-in-Ended-NoMemory.result.session.fed sent.2 refl
    (ap (λ (t : SessionState). t.fed) sent.1 ∙ c.answer_all-pause.ensures.same.0)
