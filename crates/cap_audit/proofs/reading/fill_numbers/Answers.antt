use Rattle.cap_audit.proofs.Prelude.{◌<◌, ◌+◌, arith, drop, get_or, length, set, take_more_set}
use Rattle.cap_audit.proofs.Blanks.{next_is, one_more}
use Rattle.cap_audit.proofs.reading.fill_numbers.Goals as goal

pub returns-in_default : goal.returns-in_default
returns-in_default c = λ all are many is.
    let was = c.loop-i.invariant all are many is in
    let below : c.loop-i.i < length all = omega arith in
    absurd (c.in_default.ensures (get_or all c.loop-i.i 0) (drop (c.loop-i.i + 1) all) (are c.loop-i.i) (next_is all c.loop-i.rest.now c.loop-i.i below was.left))

pub loop-i-preserved : goal.loop-i-preserved
loop-i-preserved c = λ all are many is.
    let was = c.loop-i.invariant all are many is in
    let below : c.loop-i.i < length all = omega arith in
    let found = c.in-Some.ensures (get_or all c.loop-i.i 0) (drop (c.loop-i.i + 1) all) (are c.loop-i.i) (next_is all c.loop-i.rest.now c.loop-i.i below was.left) in
    one_more c.loop-i.rest.now c.in-Some.after.now c.loop-i.numbers (set c.loop-i.numbers c.loop-i.i c.in-Some.number) all c.loop-i.i c.in-Some.number below was found.0 found.1
    (take_more_set c.loop-i.numbers c.loop-i.i c.in-Some.number (omega arith))
