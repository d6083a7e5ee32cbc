use Rattle.cap_config.proofs.Least.{least_tree}
use Rattle.cap_config.proofs.laws.queues_are_the_least_tree.Goals as goal

pub returns : goal.returns
returns c = least_tree
