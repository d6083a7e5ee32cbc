use Rattle.cap_config.proofs.Fitted.{guarantee_in_text, maximum_in_text, children_in_text}
use Rattle.cap_config.proofs.laws.capacities_fit.Goals as goal

pub returns-clause-guarantee : goal.returns-clause-guarantee
returns-clause-guarantee c = guarantee_in_text

pub returns-clause-maximum : goal.returns-clause-maximum
returns-clause-maximum c = maximum_in_text

pub returns-clause-children : goal.returns-clause-children
returns-clause-children c = children_in_text
