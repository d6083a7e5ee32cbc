use Rattle.cap_audit.proofs.Faults.{faulty}
use Rattle.cap_audit.proofs.auditor.open.Goals as goal

pub returns-clause-none : goal.returns-clause-none
returns-clause-none c = faulty _ c.args.text.now c.in-Err.fault c.in_default.not-NoMemory c.in-Err.ensures.fault
