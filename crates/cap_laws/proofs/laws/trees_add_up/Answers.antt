use Rattle.cap_laws.proofs.uses.TreeSums.{trees_add_up}
use Rattle.cap_laws.proofs.laws.trees_add_up.Goals as goal

pub returns : goal.returns
returns c = trees_add_up
