use Rattle.std.proofs.Common.{◌++◌, refl}
use Rattle.cap_replay.proofs.Lines.{plays_line, stops_at_line, fails_at_line}
use Rattle.cap_replay.proofs.player.play_lines.Goals as goal

pub returns-in-Err-clause-bad : goal.returns-in-Err-clause-bad
returns-in-Err-clause-bad c = λ n e text p.
    let before = c.loop-front.invariant.played text p in
    stops_at_line (text ++ c.args.bytes.now) c.loop-front.begun.items c.loop-front.rest.now c.in-Some.front.now c.in-Some.after.now c.loop-front.script.simulation before c.in-Some.ensures.found c.loop-front.invariant.clean (c.in-Err.ensures.bad n e before.done before.stands)

pub returns-in-Err-clause-fault : goal.returns-in-Err-clause-fault
returns-in-Err-clause-fault c = λ fault e text p.
    let before = c.loop-front.invariant.played text p in
    fails_at_line (text ++ c.args.bytes.now) c.loop-front.begun.items c.loop-front.rest.now c.in-Some.front.now c.in-Some.after.now c.loop-front.script.simulation fault ⊥ before c.in-Some.ensures.found c.loop-front.invariant.clean (c.in-Err.ensures.fault fault e before.done before.stands)

pub loop-front-preserved : goal.loop-front-preserved
loop-front-preserved c = record {
  clean = rw c.in-Ok.ensures.cleared refl;
  played = λ text p.
      let before = c.loop-front.invariant.played text p in
      plays_line (text ++ c.args.bytes.now) c.loop-front.begun.items c.loop-front.rest.now c.in-Some.front.now c.in-Some.after.now c.play_line.new.begun.items c.loop-front.script.simulation c.play_line.new.script.simulation
      before c.in-Some.ensures.found c.loop-front.invariant.clean c.in-Ok.ensures.cleared (c.in-Ok.ensures.good before.done before.stands);
}
