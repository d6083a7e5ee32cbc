use Rattle.std.proofs.Common.{sym}
use Rattle.cap_lanes.proofs.Moves.{pushes_as}
use Rattle.cap_lanes.proofs.Puts.{open_put}
use Rattle.cap_lanes.proofs.putting.put_proposal.Goals as goal

pub send_as-requires-clause-rule : goal.send_as-requires-clause-rule
send_as-requires-clause-rule g c = (pushes_as _ _ _ _ c.requires.is.sends (sym c.requires.is.worker) c.requires.is_open c.requires.is.room, λ items views h at. tt)

pub returns-in-Ok : goal.returns-in-Ok
returns-in-Ok g c =
    let h = open_put _ _ c.args.pass.now c.send_as.new.pass c.requires.is c.in-Ok.ensures.channel.0 c.args.proposal c.requires.is_open c.in-Ok.ensures.rule in
    record { is = h.0; put = h.1 }
