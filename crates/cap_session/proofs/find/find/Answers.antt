use Rattle.cap_session.proofs.Prelude.{◌≤◌, Request, kind_of, kind_room, rules, ◌≡◌, [], ◌∷◌, ◌++◌, List, ℕ, Err, ap, refl, sym, subst, ◌∙◌, MessageFault, Bad, FrameFault, resources, IsNoRequest, ReadResult, IsReadFrom, OpenRequest}
use Rattle.cap_session.proofs.Reading.{opens, opens_request, opened_is, at_fault, has_room}
use Rattle.cap_session.proofs.SessionSteps.{bad_none, bad_more, bad_given, fault_found}
use Rattle.cap_session.proofs.find.find.Goals as goal

pub loop-payload-init : goal.loop-payload-init
loop-payload-init c = (bad_none c.args.framer.now c.args.unsent.now.items c.args.answered.now.items, c.requires.asked, c.requires.ended)

pub returns-in-Err-BadLength-clause-finds : goal.returns-in-Err-BadLength-clause-finds
returns-in-Err-BadLength-clause-finds c =
    let (all, none, fresh) = c.loop-payload.invariant in
    let same = c.in-Err-BadLength.ensures.err in
    let at = at_fault c.loop-payload.framer.is_spent c.loop-payload.framer c.next.result refl (c.in-Err-BadLength.is ∙ ap (λ (e : FrameFault). Err e) c.in-Err-BadLength.field-0-is) c.next.ensures.fault c.next.ensures.again in
    rw c.end.ensures.result (fault_found c.next.new.self c.args.unsent.now c.answer_bad_length.new.unsent c.loop-payload.asked.items c.answer_bad_length.result all same.0 same.1 none at c.next.ensures.reading c.answer_bad_length.ensures)

pub loop-payload-preserved : goal.loop-payload-preserved
loop-payload-preserved c =
    let (all, none, fresh) = c.loop-payload.invariant in
    let p = c.in-Ok-Some.payload in
    let gift = rw c.in-Ok-Some.field-0-is at c.in-Ok-Some.ensures.frame in
    let (one, reads) = opens p c.as_slice.result.now c.read_request-read.result c.new.result.items c.and-opened.result.items c.as_slice.ensures c.read_request-read.ensures.found c.read_request-read.ensures.bad c.new.ensures c.and-opened.ensures in
    let is : c.read_request-read.result ≡ Err Bad = c.in-Err-Bad.is ∙ ap (λ (e : MessageFault). Err e) (rw c.in-Err-Bad.is at c.in-Err-Bad.field-0-is) in
    let bad : IsNoRequest resources p.items = subst (λ (r : ReadResult). IsReadFrom p.items r) is reads in
    (bad_more c.next.new.self c.put_fault.new.unsent.items c.and.result.items p Bad c.and-opened.result c.new-in-Err-Bad.result all gift bad c.in-Ok-put_fault.ensures.ok (one ∙ ap (λ (r : ReadResult). (p, r) ∷ []) is) c.new-in-Err-Bad.ensures c.and.ensures, none, fresh)

pub new-requires-in-Ok : goal.new-requires-in-Ok
new-requires-in-Ok c =
    let p = c.in-Ok-Some.payload in
    opens_request p c.read_request-read.result c.and-opened.result.items c.in-Ok.head c.in-Ok.request (opens p c.as_slice.result.now c.read_request-read.result c.new.result.items c.and-opened.result.items c.as_slice.ensures c.read_request-read.ensures.found c.read_request-read.ensures.bad c.new.ensures c.and-opened.ensures) c.in-Ok.is

pub returns-in-Ok-clause-finds : goal.returns-in-Ok-clause-finds
returns-in-Ok-clause-finds c =
    let (all, none, fresh) = c.loop-payload.invariant in
    let p = c.in-Ok-Some.payload in
    let o = c.new-in-Ok.result in
    let gift = rw c.in-Ok-Some.field-0-is at c.in-Ok-Some.ensures.frame in
    let (payload, request, read) = opened_is p c.read_request-read.result c.and-opened.result.items c.in-Ok.head c.in-Ok.request o (opens p c.as_slice.result.now c.read_request-read.result c.new.result.items c.and-opened.result.items c.as_slice.ensures c.read_request-read.ensures.found c.read_request-read.ensures.bad c.new.ensures c.and-opened.ensures) c.in-Ok.is c.new-in-Ok.ensures in
    let (step, given) = bad_given c.next.new.self p.items all gift in
    let asked = c.make_room.ensures.asked ∙ none in
    let room = has_room c.make_room.result c.if-is_err.ensures.value c.make_room.ensures.made in (
      all.payloads,
      all.frames,
      o,
      record { answers = step.answers; fed = step.fed; unsent = c.make_room.ensures.unsent ∙ step.unsent; answered = step.answered; calls = step.calls },
      given ∙ ap (λ (x : List ℕ). c.args.framer.now.given ++ (all.payloads ++ x ∷ [])) (sym payload),
      c.next.ensures.reading,
      c.push_back_reserved.ensures.items ∙ ap (λ (x : List OpenRequest). x ++ o ∷ []) asked,
      request,
      read,
      subst (λ (n : ℕ). n ≤ c.make_room.new.unsent.spare) (c.frame_room.ensures ∙ ap kind_room c.kind.ensures ∙ ap (λ (x : Request resources). kind_room (kind_of x)) (sym request)) room.1,
    )

pub returns-in-Err-NoMemory-clause-finds : goal.returns-in-Err-NoMemory-clause-finds
returns-in-Err-NoMemory-clause-finds c = rw c.end-in-Err-NoMemory.ensures.result (search rules)
