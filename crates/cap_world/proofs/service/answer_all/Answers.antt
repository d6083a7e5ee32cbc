use Rattle.cap_world.proofs.Prelude.{List, [], ◌∷◌, ◌++◌, refl, ◌∙◌, ap, resources, Event, call_event}
use Rattle.cap_world.proofs.ServedRequests.{serves_none, serves_then, serves_call, served_rest, served_ended, served_starved}
use Rattle.cap_world.proofs.service.answer_all.Goals as goal

pub loop-request-init : goal.loop-request-init
loop-request-init c = record {
  serves = serves_none c.args.by c.args.session.now c.args.cluster.now.flat c.args.events.now.items;
  sent = refl;
  none_open = c.requires.open;
  ended = c.requires.ended;
}

pub loop-request-preserved : goal.loop-request-preserved
loop-request-preserved c =
    let i = c.loop-request.invariant in
    let p = c.perform.ensures.performed in
    let added = p.4 ∙ ap (λ (es : List (Event resources)). es ++ call_event c.args.by c.in-Request.request p.0 ∷ []) c.of.ensures.events in
    let one = serves_call c.args.by c.loop-request.session c.next_request.new.self c.perform.new.session c.in-Request.request p.0 c.loop-request.cluster.flat c.perform.new.cluster.flat c.loop-request.events.items c.perform.new.events.items c.in-Request.ensures.gives p.2 p.3 p.1 added in
    record { serves = serves_then i.serves one.0; sent = one.1 ∙ i.sent; none_open = one.2; ended = one.3 }

pub returns-in-Need : goal.returns-in-Need
returns-in-Need c =
    let i = c.loop-request.invariant in
    served_rest c.args.by c.args.session.now c.loop-request.session c.next_request.new.self c.args.cluster.now.flat c.loop-request.cluster.flat c.args.events.now.items c.loop-request.events.items i.serves i.sent i.none_open c.in-Need.ensures.gives c.in-Need.ensures.session

pub returns-in-Ended : goal.returns-in-Ended
returns-in-Ended c =
    let i = c.loop-request.invariant in
    rw c.standing_after.ensures
    (served_ended c.args.by c.in-Ended.cause c.args.session.now c.loop-request.session c.next_request.new.self c.args.cluster.now.flat c.loop-request.cluster.flat c.args.events.now.items c.loop-request.events.items i.serves i.sent i.ended c.in-Ended.ensures.gives c.in-Ended.ensures.session)

pub returns-in_default : goal.returns-in_default
returns-in_default c =
    let i = c.loop-request.invariant in
    rw c.of.ensures.events
    (served_starved c.args.by c.args.session.now c.loop-request.session c.next_request.new.self c.in-Request.request c.args.cluster.now.flat c.loop-request.cluster.flat c.args.events.now.items c.loop-request.events.items i.serves i.sent c.in-Request.ensures.gives c.in-Request.ensures.session)
