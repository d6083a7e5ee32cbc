use Rattle.cap_choice.proofs.Unique.{node_choice_is_unique, choice_from_is_unique}
use Rattle.cap_choice.proofs.laws.choice_is_unique.Goals as goal

pub returns-clause-node : goal.returns-clause-node
returns-clause-node c = node_choice_is_unique

pub returns-clause-ring : goal.returns-clause-ring
returns-clause-ring c = choice_from_is_unique
