use Rattle.cap_lanes.proofs.Prelude.{sym, ap, ◌∙◌, View, proposals, lane_of}
use Rattle.cap_lanes.proofs.Moves.{pushes_as}
use Rattle.cap_lanes.proofs.Puts.{shut_put}
use Rattle.cap_lanes.proofs.putting.put_end.Goals as goal

pub send_as-requires-clause-rule : goal.send_as-requires-clause-rule
send_as-requires-clause-rule g c =
    let i = c.loop.invariant.is in
    (pushes_as _ _ _ _ i.is.sends (sym i.is.worker) i.is_open i.is.room, λ items views h at. tt)

pub returns-in-Ok-clause-is : goal.returns-in-Ok-clause-is
returns-in-Ok-clause-is g c = (shut_put _ _ c.loop.pass c.send_as.new.pass c.loop.invariant.is.is c.in-Ok.ensures.channel.0 c.in-Ok.ensures.rule).0

pub returns-in-Ok-clause-put : goal.returns-in-Ok-clause-put
returns-in-Ok-clause-put g c =
    (shut_put _ _ c.loop.pass c.send_as.new.pass c.loop.invariant.is.is c.in-Ok.ensures.channel.0 c.in-Ok.ensures.rule).1
    ∙ ap (λ (v : View). proposals (lane_of v).put) c.loop.invariant.same
