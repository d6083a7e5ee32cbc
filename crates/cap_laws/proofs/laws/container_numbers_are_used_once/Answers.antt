use Rattle.cap_laws.proofs.numbers.ContainerNumbers.{numbers_stay_distinct, granted_once}
use Rattle.cap_laws.proofs.laws.container_numbers_are_used_once.Goals as goal

pub returns-clause-live : goal.returns-clause-live
returns-clause-live c = numbers_stay_distinct

pub returns-clause-granted : goal.returns-clause-granted
returns-clause-granted c = granted_once
