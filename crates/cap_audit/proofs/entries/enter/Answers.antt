use Rattle.cap_audit.proofs.Pieces.{begins_so}
use Rattle.cap_audit.proofs.Steps.{call_word, grant_word, reserve_word}
use Rattle.cap_audit.proofs.entries.enter.Goals as goal

pub call-requires : goal.call-requires
call-requires c =
    let cases = c.in-Some.ensures.cases in
    begins_so c.args.line.now c.in-Some.rest.now call_word cases.0 cases.1

pub grant-requires : goal.grant-requires
grant-requires c =
    let cases = c.in-Some-strip_prefix.ensures.cases in
    begins_so c.args.line.now c.in-Some-strip_prefix.rest.now grant_word cases.0 cases.1

pub reserve-requires : goal.reserve-requires
reserve-requires c =
    let cases = c.in-Some-strip_prefix-2.ensures.cases in
    begins_so c.args.line.now c.in-Some-strip_prefix-2.rest.now reserve_word cases.0 cases.1
