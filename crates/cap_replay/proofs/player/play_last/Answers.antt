use Rattle.cap_replay.proofs.Prelude.{◌≡◌, ◌<◌, length, arith, nat_tests}
use Rattle.cap_replay.proofs.Results.{on_ok}
use Rattle.cap_replay.proofs.Lines.{ends_done, ends_done_with, ends_fault, ends_fault_with, ends_bad, ends_at_step}
use Rattle.cap_replay.proofs.player.play_last.Goals as goal

pub returns-then-is_empty-clause-good : goal.returns-then-is_empty-clause-good
returns-then-is_empty-clause-good c =
    let empty = c.if-is_empty.ensures in
    let none : length c.args.line.now ≡ 0 = grind (arith, nat_tests, empty) in
    on_ok c.begin.result c.begin.ensures.begins (λ begins. λ text p. ends_done text c.args.line.now c.args.script.now.simulation c.begin.new.self.simulation none p begins)

pub returns-then-is_empty-clause-fault : goal.returns-then-is_empty-clause-fault
returns-then-is_empty-clause-fault c =
    let empty = c.if-is_empty.ensures in
    let none : length c.args.line.now ≡ 0 = grind (arith, nat_tests, empty) in
    λ fault e text p. ends_fault text c.args.line.now c.args.script.now.simulation fault (Unit {0}) tt none p (c.begin.ensures.fault fault e)

pub returns-in-Ok-clause-good : goal.returns-in-Ok-clause-good
returns-in-Ok-clause-good c =
    let empty = c.if-is_empty.ensures in
    let some : 0 < length c.args.line.now = grind (arith, nat_tests, empty) in
    on_ok c.begin-in-Ok.result c.begin-in-Ok.ensures.begins (λ begins. λ text p. ends_done_with text c.args.line.now c.args.script.now.simulation c.play.new.self.simulation c.begin-in-Ok.new.self.simulation some c.requires p (c.in-Ok.ensures.good p.done p.stands) begins)

pub returns-in-Ok-clause-fault : goal.returns-in-Ok-clause-fault
returns-in-Ok-clause-fault c =
    let empty = c.if-is_empty.ensures in
    let some : 0 < length c.args.line.now = grind (arith, nat_tests, empty) in
    λ fault e text p. ends_fault_with text c.args.line.now c.args.script.now.simulation c.play.new.self.simulation fault (Unit {0}) tt some c.requires p (c.in-Ok.ensures.good p.done p.stands) (c.begin-in-Ok.ensures.fault fault e)

pub returns-in-Err-clause-bad : goal.returns-in-Err-clause-bad
returns-in-Err-clause-bad c =
    let empty = c.if-is_empty.ensures in
    let some : 0 < length c.args.line.now = grind (arith, nat_tests, empty) in
    λ n e text p. ends_bad text c.args.line.now c.args.script.now.simulation some c.requires p (c.in-Err.ensures.bad n e p.done p.stands)

pub returns-in-Err-clause-fault : goal.returns-in-Err-clause-fault
returns-in-Err-clause-fault c =
    let empty = c.if-is_empty.ensures in
    let some : 0 < length c.args.line.now = grind (arith, nat_tests, empty) in
    λ fault e text p. ends_at_step text c.args.line.now c.args.script.now.simulation fault (Unit {0}) some c.requires p (c.in-Err.ensures.fault fault e p.done p.stands)
