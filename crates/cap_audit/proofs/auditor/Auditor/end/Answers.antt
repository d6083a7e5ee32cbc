use Rattle.cap_audit.proofs.Onwards.{if_false, none_in_nothing, opens_none}
use Rattle.cap_audit.proofs.Prelude.{[]}
use Rattle.cap_audit.proofs.auditor.Auditor.end.Goals as goal

pub returns-in-Err-clause-none : goal.returns-in-Err-clause-none
returns-in-Err-clause-none c = if_false c.in-Err.stop c.in-Err.ensures.none (λ fails. λ may. opens_none [] _ none_in_nothing fails may)
