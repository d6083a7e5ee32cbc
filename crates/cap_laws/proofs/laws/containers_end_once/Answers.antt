use Rattle.cap_laws.proofs.numbers.Balance.{containers_balance, ended_once, live_is_what_was_not_ended}
use Rattle.cap_laws.proofs.laws.containers_end_once.Goals as goal

pub returns-clause-balance : goal.returns-clause-balance
returns-clause-balance c = containers_balance

pub returns-clause-ended : goal.returns-clause-ended
returns-clause-ended c = ended_once

pub returns-clause-live : goal.returns-clause-live
returns-clause-live c = live_is_what_was_not_ended
