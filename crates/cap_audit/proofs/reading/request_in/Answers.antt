use Rattle.cap_audit.proofs.Prelude.{◌∙◌, head, request_bytes}
use Rattle.cap_audit.proofs.Blanks.{is_spelled, spelled_bytes}
use Rattle.cap_audit.proofs.reading.request_in.Goals as goal

pub returns-in-Ok-clause-found : goal.returns-in-Ok-clause-found
returns-in-Ok-clause-found c = λ request fits is.
    let bytes = c.in-Ok.ensures (request_bytes head request) (spelled_bytes request fits) is in
    c.request_of.ensures.found request (is_spelled c.deref.result.now request fits (c.deref.ensures.value ∙ bytes))

pub returns-in-Err-clause-found : goal.returns-in-Err-clause-found
returns-in-Err-clause-found c = λ request fits is. c.in-Err.ensures (request_bytes head request) (spelled_bytes request fits) is
