use Rattle.cap_laws.proofs.choice.Reasons.{rejected_exactly, passed_is_step}
use Rattle.cap_laws.proofs.bounds.Wanting.{reasons_are_in_order}
use Rattle.cap_laws.proofs.laws.reason_says_why.Goals as goal

pub returns-clause-exact : goal.returns-clause-exact
returns-clause-exact c = rejected_exactly

pub returns-clause-order : goal.returns-clause-order
returns-clause-order c = reasons_are_in_order

pub returns-clause-steps : goal.returns-clause-steps
returns-clause-steps c = passed_is_step
