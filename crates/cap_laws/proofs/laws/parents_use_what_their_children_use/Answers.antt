use Rattle.cap_laws.proofs.uses.Parents.{parent_uses_children}
use Rattle.cap_laws.proofs.laws.parents_use_what_their_children_use.Goals as goal

pub returns : goal.returns
returns c = parent_uses_children
