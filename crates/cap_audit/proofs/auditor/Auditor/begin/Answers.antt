use Rattle.std.proofs.Common.{◌∙◌, ap, sym}
use Rattle.cap_base.specs.properties.First.{settings_in}
use Rattle.cap_audit.proofs.Onwards.{if_false, not_some}
use Rattle.cap_audit.proofs.auditor.Auditor.begin.Goals as goal

pub returns-in-Err-clause-none : goal.returns-in-Err-clause-none
returns-in-Err-clause-none c = if_false c.in-Err.stop c.in-Err.ensures.none (λ fails. record { none = not_some c.args.self.now.cluster (sym c.is_some.ensures ∙ c.if-is_some.false); fails = ap settings_in (sym c.deref.ensures.value) ∙ fails })
