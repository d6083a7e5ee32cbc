use Rattle.std.proofs.Common.{◌++◌, refl}
use Rattle.cap_audit.proofs.Pieces.{ended_line, false_line, read_on}
use Rattle.cap_audit.proofs.Onwards.{if_false}
use Rattle.cap_audit.proofs.player.play_piece.Goals as goal

pub loop-last-init : goal.loop-last-init
loop-last-init c = record { clean = c.requires; played = λ text p. read_on text c.args.begun.now.items c.args.piece.now c.args.auditor.now p }

pub loop-last-preserved : goal.loop-last-preserved
loop-last-preserved c = record {
  clean = rw c.in-Ok.ensures.cleared refl;
  played = λ text p.
      let before = c.loop-last.invariant.played text p in
      ended_line (text ++ c.args.piece.now) c.loop-last.begun.items c.loop-last.rest.now c.in-Some.last.now c.in-Some.after.now c.play_ended.new.begun.items c.loop-last.auditor c.play_ended.new.auditor
      before c.in-Some.ensures.found c.loop-last.invariant.clean c.in-Ok.ensures.cleared c.in-Ok.ensures.good c.in-Ok.ensures.only;
}

pub returns-in-Err-clause-bad : goal.returns-in-Err-clause-bad
returns-in-Err-clause-bad c = if_false c.in-Err.stop c.in-Err.ensures.only (λ never. λ text p.
    let before = c.loop-last.invariant.played text p in
    false_line (text ++ c.args.piece.now) c.loop-last.begun.items c.loop-last.rest.now c.in-Some.last.now c.in-Some.after.now c.loop-last.auditor before c.in-Some.ensures.found c.loop-last.invariant.clean never)
