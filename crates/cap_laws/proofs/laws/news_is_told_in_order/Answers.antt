use Rattle.cap_laws.proofs.telling.Telling.{grants_are_told_in_order, ends_are_told_in_order}
use Rattle.cap_laws.proofs.laws.news_is_told_in_order.Goals as goal

pub returns-clause-grants : goal.returns-clause-grants
returns-clause-grants c = grants_are_told_in_order

pub returns-clause-ends : goal.returns-clause-ends
returns-clause-ends c = ends_are_told_in_order
