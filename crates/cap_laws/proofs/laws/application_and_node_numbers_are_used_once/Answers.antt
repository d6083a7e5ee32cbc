use Rattle.cap_laws.proofs.numbers.AppNumbers.{app_numbers_stay_distinct, numbers_are_not_used_again}
use Rattle.cap_laws.proofs.laws.application_and_node_numbers_are_used_once.Goals as goal

pub returns-clause-distinct : goal.returns-clause-distinct
returns-clause-distinct c = app_numbers_stay_distinct

pub returns-clause-again : goal.returns-clause-again
returns-clause-again c = numbers_are_not_used_again
