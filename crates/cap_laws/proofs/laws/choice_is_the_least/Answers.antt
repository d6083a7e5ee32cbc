use Rattle.cap_laws.proofs.choice.Ranks.{one_of_each_rank}
use Rattle.cap_laws.proofs.choice.Choosing.{choice_is_computed, choice_from_is_computed}
use Rattle.cap_laws.proofs.laws.choice_is_the_least.Goals as goal

pub returns-clause-ranks : goal.returns-clause-ranks
returns-clause-ranks c = one_of_each_rank

pub returns-clause-node : goal.returns-clause-node
returns-clause-node c = choice_is_computed

pub returns-clause-ring : goal.returns-clause-ring
returns-clause-ring c = choice_from_is_computed
