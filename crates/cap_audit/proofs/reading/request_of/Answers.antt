use Rattle.cap_audit.proofs.Prelude.{Err, ap, head}
use Rattle.cap_audit.proofs.reading.request_of.Goals as goal

pub returns-in-Err-Bad-clause-found : goal.returns-in-Err-Bad-clause-found
returns-in-Err-Bad-clause-found c = λ request is. c.in-Err-Bad.ensures.bad (ap Err c.in-Err-Bad.field-0-is) head request is
