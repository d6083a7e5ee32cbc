use Rattle.cap_laws.proofs.bounds.PartBounds.{ends_stay_bounded, ask_stays_bounded, report_stays_bounded}
use Rattle.cap_laws.proofs.laws.parts_of_calls_keep_bounds.Goals as goal

pub returns-clause-ends : goal.returns-clause-ends
returns-clause-ends c = ends_stay_bounded

pub returns-clause-asks : goal.returns-clause-asks
returns-clause-asks c = ask_stays_bounded

pub returns-clause-reports : goal.returns-clause-reports
returns-clause-reports c = report_stays_bounded
