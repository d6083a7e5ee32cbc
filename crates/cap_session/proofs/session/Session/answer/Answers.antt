use Rattle.cap_session.proofs.Prelude.{◌≤◌, ◌+◌, kind_room, ◌∙◌, ◌++◌, ◌∷◌, [], List, ℕ, refl, ap, sym, subst, frame_of, SessionState, OpenRequest, MayAnswer, SpellsAnswer, PayloadLog, payloads_in, calls_in, IsOfKind, Inside}
use Rattle.cap_session.proofs.Answering.{is_answer}
use Rattle.cap_session.proofs.SessionSteps.{may_answer, opens_first, answers_it}
use Rattle.cap_session.proofs.session.Session.answer.Goals as goal

pub put_reply-requires-clause-kind : goal.put_reply-requires-clause-kind
put_reply-requires-clause-kind c =
    let o = c.in-Some.asked in
    let first = opens_first c.self.inside (record c.self.inside { asked = c.pop_front.new.self }) o c.args.reply.now c.self.invariant (may_answer c.self.inside c.args.self.now c.args.reply.now c.self.view_is c.requires) c.in-Some.ensures.items refl in
    subst (λ (n : ℕ). IsOfKind n c.args.reply.now) (sym c.parts-opened.ensures.kind) (subst (λ (x : List OpenRequest). MayAnswer x c.args.reply.now) first.0 (may_answer c.self.inside c.args.self.now c.args.reply.now c.self.view_is c.requires))

-- the session that has answered
abbrev after : goal.After-self-1 → Inside
after c = record c.self.inside { asked = c.pop_front.new.self; unsent = c.put_reply.new.unsent; answered = c.and-self-inside.result }

-- the reply is spelled under the request's head and kind
spelled : (c : goal.After-self-1) → SpellsAnswer (c.in-Some.asked ∷ []) c.args.reply.now
spelled c = let has = c.parts-opened.ensures in (has.reads, rw (has.head_is, ← has.kind) c.put_reply.ensures.spells)

pub invariant_of-self : goal.invariant_of-self
invariant_of-self c =
    let o = c.in-Some.asked in
    let has = c.parts-opened.ensures in
    let reply = c.args.reply.now in
    let opened = c.parts-opened.result.1 in
    (answers_it c.self.inside (after c) o reply opened c.and.result c.self.invariant (may_answer c.self.inside c.args.self.now c.args.reply.now c.self.view_is c.requires) c.in-Some.ensures.items (ap payloads_in has.one ∙ ap (λ (x : List ℕ). x ∷ []) (sym has.payload_is)) (ap (λ (l : PayloadLog). calls_in l ((reply, tt) ∷ [])) has.one) (spelled c) refl refl refl
    (c.and.ensures ∙ ap (λ x. x ++ (reply, tt) ∷ []) c.new.ensures) c.and-self-inside.ensures refl
    (c.put_reply.ensures.appends ∙ ap (λ (x : List ℕ). c.self.inside.unsent.items ++ frame_of x) (is_answer o c.parts-opened.result.0.of_request c.parts-opened.result.0.kind reply has.head_is has.kind)) (subst (λ (n : ℕ). c.self.inside.unsent.spare ≤ c.put_reply.new.unsent.spare + kind_room n) has.kind c.put_reply.ensures.spare)).0

pub returns-clause-spells : goal.returns-clause-spells
returns-clause-spells c =
    let first = opens_first c.self.inside (after c) c.in-Some.asked c.args.reply.now c.self.invariant (may_answer c.self.inside c.args.self.now c.args.reply.now c.self.view_is c.requires) c.in-Some.ensures.items refl in
    subst (λ (x : List OpenRequest). SpellsAnswer x c.args.reply.now) (sym first.0 ∙ ap (λ (s : SessionState). s.opens) c.self.view_is) (spelled c)
