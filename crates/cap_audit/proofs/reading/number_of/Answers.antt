use Rattle.cap_audit.proofs.Prelude.{IsAscii-decimal, IsUtf8-from_ascii, parse-decimal, subst, sym, ◌∙◌}
use Rattle.std.specs.Str.{IsUtf8}
use Rattle.cap_audit.proofs.reading.number_of.Goals as goal

pub returns-in_default : goal.returns-in_default
returns-in_default c = λ n small is. absurd (c.in_default.ensures.cases.0 (subst IsUtf8 (sym is) (IsUtf8-from_ascii _ (IsAscii-decimal n small))))

pub returns-in-Ok-parse : goal.returns-in-Ok-parse
returns-in-Ok-parse c = λ n small is.
    let text = c.in-Ok.ensures.cases.0 ∙ is in
    let read = parse-decimal 64 n c.in-Ok.digits.now c.parse.result small small text c.parse.ensures.value.0 in
    cc (read, c.in-Ok-parse.is)

pub returns-in-Err : goal.returns-in-Err
returns-in-Err c = λ n small is.
    let text = c.in-Ok.ensures.cases.0 ∙ is in
    let read = parse-decimal 64 n c.in-Ok.digits.now c.parse.result small small text c.parse.ensures.value.0 in
    absurd (cc (read, c.in-Err.is))
