use Rattle.cap_audit.proofs.Prelude.{◌≡◌, ◌<◌, length, arith, nat_tests}
use Rattle.cap_audit.proofs.Pieces.{ends_whole, ends_with, false_end, false_last, false_whole, on_ok}
use Rattle.cap_audit.proofs.Onwards.{if_false, on_err}
use Rattle.cap_audit.proofs.player.play_last.Goals as goal

pub returns-then-is_empty : goal.returns-then-is_empty
returns-then-is_empty c =
    let empty = c.if-is_empty.ensures in
    let none : length c.args.line.now ≡ 0 = grind (arith, nat_tests, empty) in
    record {
      good = on_ok c.end.result c.end.ensures.ends (λ e. λ text p. ends_whole text c.args.line.now c.args.auditor.now c.end.new.self none p e.0 e.1);
      bad = on_err c.end.result c.end.ensures.none (λ never. λ text p. false_whole text c.args.line.now c.args.auditor.now none p never);
    }

pub returns-in-Ok : goal.returns-in-Ok
returns-in-Ok c =
    let empty = c.if-is_empty.ensures in
    let some : 0 < length c.args.line.now = grind (arith, nat_tests, empty) in
    record {
      good = on_ok c.end-in-Ok.result c.end-in-Ok.ensures.ends (λ e. λ text p. ends_with text c.args.line.now c.args.auditor.now c.play.new.self c.end-in-Ok.new.self some c.requires p c.in-Ok.ensures.plays e.0 e.1);
      bad = on_err c.end-in-Ok.result c.end-in-Ok.ensures.none (λ never. λ text p. false_end text c.args.line.now c.args.auditor.now c.play.new.self some c.requires p c.in-Ok.ensures.only never);
    }

pub returns-in-Err-clause-bad : goal.returns-in-Err-clause-bad
returns-in-Err-clause-bad c =
    let empty = c.if-is_empty.ensures in
    let some : 0 < length c.args.line.now = grind (arith, nat_tests, empty) in
    if_false c.in-Err.stop c.in-Err.ensures.only (λ never. λ text p. false_last text c.args.line.now c.args.auditor.now some c.requires p never)
